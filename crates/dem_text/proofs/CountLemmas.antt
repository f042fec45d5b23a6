-- The greatest counts of targets, found one after another.
use Rattle.std.proofs.Common.{◌≡◌, ℕ, false, List, [], ◌∷◌, ap, sym, ◌∙◌, arith}
use Rattle.std.specs.Prelude.{max}
use Rattle.dem_text.specs.declared.target.Target.{Target}
use Rattle.dem_text.specs.Limits.{has_target_beyond, is_target_beyond}
use Rattle.stim_lexer.specs.Reached.{greatest_by}
use Rattle.dem_text.proofs.ShiftLemmas.{left, right}

pub max-none : (a : ℕ) → max a 0 ≡ a
max-none a = omega arith

pub max-more : (a b c : ℕ) → max (max a b) c ≡ max a (max b c)
max-more a b c = omega arith

-- one target more
pub raised-next : {X : Type 0} (count : X → ℕ) (a b : ℕ) (t : X) (rest rest' : List X) → rest ≡ t ∷ rest' → b ≡ max a (count t)
    → max b (greatest_by count rest') ≡ max a (greatest_by count rest)
raised-next count a b t rest rest' e more =
    ap (λ n. max n (greatest_by count rest')) more
    ∙ max-more a (count t) (greatest_by count rest')
    ∙ ap (λ ts. max a (greatest_by count ts)) (sym e)

pub raised-done : {X : Type 0} (count : X → ℕ) (a : ℕ) (rest : List X) → rest ≡ [] → a ≡ max a (greatest_by count rest)
raised-done count a rest e = sym (ap (λ ts. max a (greatest_by count ts)) e ∙ max-none a)

pub within-first : (t : Target) (ts : List Target) → has_target_beyond (t ∷ ts) ≡ false → (is_target_beyond t ≡ false) × (has_target_beyond ts ≡ false)
unfolding has_target_beyond
within-first t ts h = (left (is_target_beyond t) _ h, right (is_target_beyond t) _ h)
