-- Generators in a list, changed one after another where they stand.
use Rattle.std.proofs.Common.{◌≡◌, ℕ, zero, suc, ◌+◌, ◌<◌, ◌≤◌, List, [], ◌∷◌, ◌++◌, length, take, drop, set, get_or, map, refl, sym, ap, ap₂, ◌∙◌, arith}
use Rattle.std.proofs.lemmas.List.{append-nil, drop_all, take_all}
use Rattle.std.proofs.lemmas.List.Edits.{map_over_more}
use Rattle.rand_pcg.specs.Lcg.{Lcg}
use Rattle.forward_sim.specs.private.AllLanes.{generator_at}

-- the next one is as it was
ahead : (f : Lcg → Lcg) (xs : List Lcg) (i : ℕ) (d : Lcg) → i < length xs → get_or (map f (take i xs) ++ drop i xs) i d ≡ generator_at xs i
ahead f [] i d h = absurd (omega arith)
ahead f (x ∷ xs) zero d h = refl
ahead f (x ∷ xs) (suc i) d h = ahead f xs i d (omega arith)

pub current : (f : Lcg → Lcg) (xs ys : List Lcg) (i : ℕ) (x : Lcg) → i < length xs → ys ≡ map f (take i xs) ++ drop i xs → get_or ys i x ≡ generator_at xs i
current f xs ys i x h is = ap (λ l. get_or l i x) is ∙ ahead f xs i x h

pub seat_more : (f : Lcg → Lcg) (xs ys : List Lcg) (i : ℕ) (x y : Lcg) → i < length xs → ys ≡ map f (take i xs) ++ drop i xs → x ≡ get_or ys i x → y ≡ f (get_or ys i x)
    → set ys i y ≡ map f (take (i + 1) xs) ++ drop (i + 1) xs
seat_more f xs ys i x y h is at new = ap (set ys i) (new ∙ ap f (sym at)) ∙ map_over_more f xs ys i x h is at

pub all_seated : (f : Lcg → Lcg) (xs ys : List Lcg) (i : ℕ) → length xs ≤ i → ys ≡ map f (take i xs) ++ drop i xs → ys ≡ map f xs
all_seated f xs ys i over is =
    is ∙ (ap₂ (λ a b. map f a ++ b) (take_all i xs over) (drop_all i xs over) ∙ append-nil (map f xs))
