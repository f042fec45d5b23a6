-- The numbers that are named and still to come, one line after another.
use Rattle.std.proofs.Common.{◌≡◌, ℕ, ◌+◌, ◌<◌, ◌≤◌, Bool, true, false, List, [], ◌∷◌, refl, ap, subst, ◌∙◌, arith, inl, inr}
use native.Mathlib.Numerals.{unary_clauses}
use Rattle.std.specs.Prelude.{◌==◌, ◌||◌, length, slice_index}
use Rattle.std.specs.List.Sorted.{IsStrictlyIncreasing}
use Rattle.std.proofs.lemmas.Bool.{cases_Bool, or_from}
use Rattle.std.proofs.lemmas.Bool.Decides.{nat_tests}
use Rattle.dem_text.specs.NamedLines.{is_among}
use Rattle.dem_text.specs.private.Folds.{AscendFrom, IsLater, is_next, later_after}

later-none : (low n : ℕ) (later : List ℕ) → AscendFrom low later → n < low → is_among later n ≡ false
later-none low n [] h below = refl
later-none low n (m ∷ later) h below =
    let least = h.0 in
    let other : (m == n) ≡ false = grind (arith, nat_tests) in
    or_from (m == n) (is_among later n) other (later-none (m + 1) n later h.1 (omega (arith, below, least)))

or-none : (b : Bool) → (b || false) ≡ b
or-none true = refl
or-none false = refl

-- a number is among those that are to come where it is the next
pub later-is : (read : ℕ) (later : List ℕ) → AscendFrom read later → is_among later read ≡ is_next read later
later-is read [] h = refl
later-is read (m ∷ later) h =
    let least = h.0 in
    ap (λ b. (m == read) || b) (later-none (m + 1) read later h.1 (omega (arith, least))) ∙ or-none (m == read)

later-same : (read n : ℕ) (later : List ℕ) → read + 1 ≤ n → is_among later n ≡ is_among (later_after read later) n
later-same read n [] h = refl
later-same read n (m ∷ later) h =
    elim (cases_Bool (m == read)) [
      | inl next ↦
          let same : m ≡ read = grind (arith, nat_tests) in
          let other : (m == n) ≡ false = grind (arith, nat_tests) in
          rw (next, other) refl
      | inr other ↦ rw other refl
    ]

later-ascend : (read : ℕ) (later : List ℕ) → AscendFrom read later → AscendFrom (read + 1) (later_after read later)
later-ascend read [] h = tt
later-ascend read (m ∷ later) h =
    elim (cases_Bool (m == read)) [
      | inl next ↦
          let same : m ≡ read = grind (arith, nat_tests) in
          rw next (subst (λ n. AscendFrom (n + 1) later) same h.1)
      | inr other ↦
          let least = h.0 in
          let more : read + 1 ≤ m = grind (arith, nat_tests) in
          rw other (more, h.1)
    ]

pub later-next : (named : List ℕ) (read : ℕ) (later : List ℕ) → IsLater named read later → IsLater named (read + 1) (later_after read later)
later-next named read later h =
    record {
      same = λ n more. h.same n (omega (arith, more)) ∙ later-same read n later more;
      ascend = later-ascend read later h.ascend;
    }

-- ---- before the first line

ascend-above : (low : ℕ) (numbers : List ℕ) → IsStrictlyIncreasing numbers → (0 < length numbers → low ≤ slice_index numbers 0) → AscendFrom low numbers
ascend-above low [] h first = tt
ascend-above low (n ∷ []) h first = (first (omega arith), tt)
ascend-above low (n ∷ m ∷ numbers) h first =
    let next : n < m = h 0 (omega arith) in
    (first (omega arith), ascend-above (n + 1) (m ∷ numbers) (λ k below. simp unary_clauses (simp unary_clauses at (h (k + 1) (omega (arith, below))))) (λ some. omega (arith, next)))

pub later-all : (numbers : List ℕ) → IsStrictlyIncreasing numbers → IsLater numbers 0 numbers
later-all numbers h = record { same = λ n more. refl; ascend = ascend-above 0 numbers h (λ some. omega arith) }
