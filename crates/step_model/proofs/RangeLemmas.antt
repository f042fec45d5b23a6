-- The numbers of a range, and those of them that pass a test.
use Rattle.std.proofs.Common.{◌≡◌, ◌≢◌, ℕ, zero, suc, ◌+◌, ◌≤◌, ◌<◌, Bool, true, false, cond, ◌||◌, eqb, List, ◌∷◌, ◌++◌, inl, inr, refl, ap, ap₂, sym, ◌∙◌, arith, ne_eqb, eq-eqb}
use Rattle.std.specs.List.{range_with_len, list_any, filter}
use Rattle.std.specs.List.Sorted.{IsStrictlyIncreasing}
use Rattle.std.proofs.lemmas.Bool.{cases_eq}
use Rattle.std.proofs.lemmas.List.FromFn.{get_or-range_with_len, length-range_with_len}

pub range_rises : (a n : ℕ) → IsStrictlyIncreasing (range_with_len a n)
range_rises a n k h =
    let size = length-range_with_len a n in
    let here = get_or-range_with_len a n k 0 (omega arith) in
    let after = get_or-range_with_len a n (k + 1) 0 (omega arith) in
    omega arith

-- so many numbers, and then so many more
pub range-append : (a m n : ℕ) → range_with_len a (m + n) ≡ range_with_len a m ++ range_with_len (a + m) n
range-append a zero n =
    let start : a ≡ a + 0 = omega arith in
    let count : 0 + n ≡ n = omega arith in
    ap (range_with_len a) count ∙ ap (λ b. range_with_len b n) start
range-append a (suc m) n =
    let count : suc m + n ≡ suc (m + n) = omega arith in
    let start : a + 1 + m ≡ a + suc m = omega arith in
    ap (range_with_len a) count
    ∙ ap (λ xs. a ∷ xs) (range-append (a + 1) m n ∙ ap (λ b. range_with_len (a + 1) m ++ range_with_len b n) start)

-- a number is among those of a range that pass a test exactly where it passes

absent : (p : ℕ → Bool) (d : ℕ) (xs : List ℕ) (x : ℕ) (b : Bool) → d ≢ x → list_any (λ u. eqb d u) xs ≡ false → list_any (λ u. eqb d u) (cond b (x ∷ xs) xs) ≡ false
absent p d xs x true h k = ap₂ ◌||◌ (ne_eqb d x h) k
absent p d xs x false h k = k

not_below : (p : ℕ → Bool) (d a n : ℕ) → d < a → list_any (λ u. eqb d u) (filter p (range_with_len a n)) ≡ false
not_below p d a zero h = refl
not_below p d a (suc n) h = absent p d (filter p (range_with_len (a + 1) n)) a (p a) (omega arith) (not_below p d (a + 1) n (omega arith))

found : (p : ℕ → Bool) (d : ℕ) (xs : List ℕ) (b : Bool) → list_any (λ u. eqb d u) xs ≡ false → list_any (λ u. eqb d u) (cond b (d ∷ xs) xs) ≡ b
found p d xs true h = ap (λ t. t || list_any (λ u. eqb d u) xs) (eq-eqb d d refl)
found p d xs false h = h

passed_over : (p : ℕ → Bool) (d x : ℕ) (xs : List ℕ) (b : Bool) → d ≢ x → list_any (λ u. eqb d u) (cond b (x ∷ xs) xs) ≡ list_any (λ u. eqb d u) xs
passed_over p d x xs true h = ap (λ t. t || list_any (λ u. eqb d u) xs) (ne_eqb d x h)
passed_over p d x xs false h = refl

pub among_range : (p : ℕ → Bool) (d a n : ℕ) → a ≤ d → d < a + n → list_any (λ u. eqb d u) (filter p (range_with_len a n)) ≡ p d
among_range p d a zero h k = absurd (omega arith)
among_range p d a (suc n) h k =
    elim (cases_eq d a) as (λ _. list_any (λ u. eqb d u) (filter p (range_with_len a (suc n))) ≡ p d) [
      | inl e ↦
          ap (λ x. list_any (λ u. eqb d u) (cond (p x) (x ∷ filter p (range_with_len (a + 1) n)) (filter p (range_with_len (a + 1) n)))) (sym e)
          ∙ found p d (filter p (range_with_len (a + 1) n)) (p d) (not_below p d (a + 1) n (omega arith))
      | inr ne ↦
          passed_over p d a (filter p (range_with_len (a + 1) n)) (p a) ne
          ∙ among_range p d (a + 1) n (omega arith) (omega arith)
    ]
