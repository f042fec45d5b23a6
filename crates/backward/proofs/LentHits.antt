-- Targets that a tracker lends: they come from the last to the first.
use Rattle.std.proofs.Common.{◌≡◌, ℕ, ◌<◌, ◌==◌, suc, true, false, eqb-true, List, [], ◌∷◌, length, Option, refl, ap, subst, sym, ◌∙◌, arith}
use Rattle.std.specs.Prelude.{All, reverse}
use Rattle.std.proofs.lemmas.List.{append-nil, length-reverse, reverse-reverse}
use Rattle.std.proofs.lemmas.List.Sorted.{All-permutation, IsPermutation-reverse}
use Rattle.step_model.specs.ErrorModels.{ErrorLine}
use Rattle.backward.specs.private.Collapses.{noted}
use Rattle.backward.specs.private.Stretches.{Gives, line_for}

-- a target that is among those that are turned is among them
pub all_of_reversed : (n : ℕ) (ts : List ℕ) → All (λ t. t < n) (reverse ts) → All (λ t. t < n) ts
all_of_reversed n ts all =
    subst (All (λ t. t < n)) (reverse-reverse ts)
    (All-permutation (λ t. t < n) (reverse ts) (reverse (reverse ts)) (IsPermutation-reverse (reverse ts)) all)

-- no targets have no line
pub gives_none : (holds : List ErrorLine → Type 0) (text ts : List ℕ) → (length ts == 0) ≡ true → Gives holds holds (line_for text (reverse ts))
gives_none holds text [] none given h = subst holds (sym (append-nil given)) h
gives_none holds text (t ∷ ts) none given h = absurd (omega (arith, eqb-true (suc (length ts)) 0 none))

pub line_for_some : (text ts : List ℕ) → (length ts == 0) ≡ false → record { text = text; targets = ts } ∷ [] ≡ line_for text ts
line_for_some text [] some = cc
line_for_some text (t ∷ ts) some = refl

-- and some have one
pub line_for_reversed : (text ts : List ℕ) → (length ts == 0) ≡ false → record { text = text; targets = reverse ts } ∷ [] ≡ line_for text (reverse ts)
line_for_reversed text ts some = line_for_some text (reverse ts) (ap (λ n. n == 0) (length-reverse ts) ∙ some)

-- for no targets nothing is noted
pub noted_none : (value : ℕ) (hit ts : List ℕ) (found : List (Option ℕ)) → reverse hit ≡ ts → (length hit == 0) ≡ true → found ≡ noted value ts found
noted_none value [] ts found is none = ap (λ l. noted value l found) is
noted_none value (t ∷ hit) ts found is none = absurd (omega (arith, eqb-true (suc (length hit)) 0 none))

pub none_hit : (hit ts : List ℕ) → reverse hit ≡ ts → (length hit == 0) ≡ true → [] ≡ ts
none_hit [] ts is none = is
none_hit (t ∷ hit) ts is none = absurd (omega (arith, eqb-true (suc (length hit)) 0 none))
