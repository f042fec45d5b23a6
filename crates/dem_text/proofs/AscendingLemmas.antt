-- Targets that ascend are those that stand an odd number of times among themselves.
use Rattle.std.proofs.Common.{◌≡◌, ℕ, zero, suc, ◌+◌, ◌==◌, ◌<◌, ◌≤◌, true, false, List, [], ◌∷◌, length, refl, ap, subst, sym, ◌∙◌, inl, inr, arith, All}
use Rattle.std.specs.Prelude.{⊤, filter, slice_index}
use Rattle.std.specs.List.{range_with_len}
use Rattle.std.specs.List.Sorted.{IsStrictlyIncreasing}
use Rattle.std.proofs.lemmas.Bool.{cases_eq, eq-eqb, ne_eqb}
use Rattle.pauli_word.specs.Parity.{exclusive_or}
use Rattle.dem_text.specs.private.Numbered.{odd_below}
use Rattle.step_model.specs.Targets.{is_listed}
use Rattle.dem_text.proofs.FlipLemmas.{filter-agree, none_odd}

-- numbers that ascend from one on, below another
AscendFrom : ℕ → ℕ → List ℕ → Type 0
AscendFrom low high [] = ⊤
AscendFrom low high (t ∷ targets) = (low ≤ t) × (t < high) × AscendFrom (t + 1) high targets

from_lower : (low higher high : ℕ) (targets : List ℕ) → low ≤ higher → AscendFrom higher high targets → AscendFrom low high targets
unfolding AscendFrom
from_lower low higher high [] le h = tt
from_lower low higher high (t ∷ targets) le h = let first = h.0 in (omega (arith, le, first), h.1, h.2)

ascend : (low high : ℕ) (targets : List ℕ) → IsStrictlyIncreasing targets → All (λ t. t < high) targets → (0 < length targets → low ≤ slice_index targets 0) → AscendFrom low high targets
unfolding AscendFrom
ascend low high [] up below first = tt
ascend low high (t ∷ targets) up below first = (
  first (omega arith),
  below 0 t (omega arith),
  ascend (t + 1) high targets
      (λ k h.
      let next : suc k + 1 ≡ suc (k + 1) = omega arith in
      subst (λ m. slice_index (t ∷ targets) (suc k) < slice_index (t ∷ targets) m) next (up (suc k) (omega (arith, h))))
      (λ k d h. below (suc k) d (omega (arith, h)))
      (λ some. let more = up 0 (omega (arith, some)) in omega (arith, more)),
)

not_among : (x high : ℕ) (targets : List ℕ) → AscendFrom (x + 1) high targets → is_listed targets x ≡ false
unfolding AscendFrom
not_among x high [] h = refl
not_among x high (t ∷ targets) h =
    let first = h.0 in
    let other : (t == x) ≡ false = ne_eqb t x (λ e. absurd (omega (arith, e, first))) in
    rw (other, not_among x high targets (from_lower (x + 1) (t + 1) high targets (omega (arith, first)) h.2)) refl

all_odd : (low n : ℕ) (targets : List ℕ) → AscendFrom low (low + n) targets → filter (λ x. is_listed targets x) (range_with_len low n) ≡ targets
unfolding AscendFrom
all_odd low n [] h = none_odd low n
all_odd low zero (t ∷ targets) h = let least = h.0 in let most = h.1 in absurd (omega (arith, least, most))
all_odd low (suc n) (t ∷ targets) h =
    let least = h.0 in
    let most = h.1 in
    let far : low + suc n ≡ low + 1 + n = omega arith in
    elim (cases_eq low t) [
      | inl e ↦
          let here : is_listed (t ∷ targets) low ≡ true =
          rw (eq-eqb t low (sym e), not_among low (low + suc n) targets (from_lower (low + 1) (t + 1) (low + suc n) targets (omega (arith, e)) h.2)) refl in
          let rest : filter (λ x. is_listed (t ∷ targets) x) (range_with_len (low + 1) n) ≡ targets =
          filter-agree (λ x. is_listed (t ∷ targets) x) (λ x. is_listed targets x) (low + 1) n
          (λ x after below. ap (λ b. exclusive_or b (is_listed targets x)) (ne_eqb t x (λ same. absurd (omega (arith, same, e, after)))))
          ∙ all_odd (low + 1) n targets (subst (λ high. AscendFrom (low + 1) high targets) far (from_lower (low + 1) (t + 1) (low + suc n) targets (omega (arith, e)) h.2)) in
          rw here (ap (λ xs. low ∷ xs) rest ∙ ap (λ x. x ∷ targets) e)
      | inr differ ↦
          let above : low < t = omega (arith, least, differ) in
          let here : is_listed (t ∷ targets) low ≡ false = not_among low (low + suc n) (t ∷ targets) (omega (arith, above), most, h.2) in
          rw here (all_odd (low + 1) n (t ∷ targets) (omega (arith, above), omega (arith, most), subst (λ high. AscendFrom (t + 1) high targets) far h.2))
    ]

pub odd_below-ascending : (n : ℕ) (targets : List ℕ) → IsStrictlyIncreasing targets → All (λ t. t < n) targets → odd_below n targets ≡ targets
odd_below-ascending n targets up below =
    let same : n ≡ 0 + n = omega arith in
    all_odd 0 n targets (subst (λ high. AscendFrom 0 high targets) same (ascend 0 n targets up below (λ some. omega arith)))
