-- What targets flip, by their numbers.
use Rattle.std.proofs.Common.{◌≡◌, ℕ, zero, suc, ◌+◌, ◌==◌, ◌<◌, ◌≤◌, Bool, true, false, not, List, [], ◌∷◌, refl, ap, sym, ◌∙◌, arith}
use Rattle.std.specs.Prelude.{cond, All}
use Rattle.std.specs.List.{sum_by}
use Rattle.std.specs.List.Sorted.{IsPermutation}
use Rattle.std.proofs.lemmas.List.Elements.{All-cons}
use Rattle.std.proofs.lemmas.List.Sorted.{sum_by-IsPermutation}
use Rattle.std.proofs.lemmas.List.Sums.{sum_by-append}
use Rattle.pauli_word.specs.Parity.{exclusive_or}
use Rattle.dem_text.specs.declared.target.Target.{Target}
use Rattle.dem_text.specs.declared.target.Target.TheVariants.{Plain, Detector, Observable, Separator}
use Rattle.dem_text.specs.Meanings.{detectors_to, observables_to}
use Rattle.stim_lexer.specs.Reached.{greatest_by}
use Rattle.dem_text.specs.private.Numbered.{odd_below, numbers_of}
use Rattle.step_model.specs.Targets.{is_listed}
use Rattle.dem_text.proofs.FlipLemmas.{filter-agree}

-- ---- the order doesn't matter

abbrev odd : ℕ → Bool
odd zero = false
odd (suc n) = not (odd n)

abbrev once : ℕ → ℕ → ℕ
once t u = cond (u == t) 1 0

odd-more : (b : Bool) (n : ℕ) → exclusive_or b (odd n) ≡ odd (cond b 1 0 + n)
odd-more true n = let e : suc n ≡ 1 + n = omega arith in ap odd e
odd-more false n = let e : n ≡ 0 + n = omega arith in ap odd e

flipped-counted : (t : ℕ) (xs : List ℕ) → is_listed xs t ≡ odd (sum_by (once t) xs)
flipped-counted t [] = refl
flipped-counted t (x ∷ xs) =
    let first : 0 + once t x ≡ once t x = omega arith in
    ap (exclusive_or (x == t)) (flipped-counted t xs)
    ∙ odd-more (x == t) (sum_by (once t) xs)
    ∙ ap (λ n. odd (n + sum_by (once t) xs)) (sym first)
    ∙ ap odd (sym (sum_by-append (once t) (x ∷ []) xs))

pub same-odd : (n : ℕ) (xs ys : List ℕ) → IsPermutation xs ys → odd_below n ys ≡ odd_below n xs
same-odd n xs ys p =
    filter-agree (λ t. is_listed ys t) (λ t. is_listed xs t) 0 n
    (λ t a h. flipped-counted t ys ∙ ap odd (sum_by-IsPermutation (once t) xs ys p) ∙ sym (flipped-counted t xs))

-- ---- detectors first, then observables

pub all-numbers : (a b : ℕ) (ts : List Target) → greatest_by detectors_to ts ≤ a → greatest_by observables_to ts ≤ b → All (λ m. m < a + b) (numbers_of a ts)
all-numbers a b [] h j = λ i d below. absurd (omega (arith, below))
all-numbers a b (Plain n ∷ ts) h j = all-numbers a b ts (omega (arith, h)) (omega (arith, j))
all-numbers a b (Detector d ∷ ts) h j =
    All-cons (λ m. m < a + b) d (numbers_of a ts) (omega (arith, h)) (all-numbers a b ts (omega (arith, h)) (omega (arith, j)))
all-numbers a b (Observable k ∷ ts) h j =
    All-cons (λ m. m < a + b) (a + k) (numbers_of a ts) (omega (arith, j)) (all-numbers a b ts (omega (arith, h)) (omega (arith, j)))
all-numbers a b (Separator ∷ ts) h j = all-numbers a b ts (omega (arith, h)) (omega (arith, j))
