-- The factors of a word up to a qubit.
use Rattle.std.proofs.Common.{◌≡◌, ℕ, zero, suc, ◌+◌, ◌-◌, ◌<◌, ◌≤◌, List, [], ◌∷◌, ◌++◌, refl, ap, ap₂, ◌∙◌, arith, append-nil}
use Rattle.std.specs.Prelude.{if◌then◌else◌}
use Rattle.std.specs.List.{flat_map, range_with_len}
use Rattle.std.proofs.lemmas.List.Concat.{flat_map-append}
use Rattle.pauli_word.specs.declared.letter.Letter.{Letter}
use Rattle.pauli_word.specs.declared.letter.Letter.TheVariants.{I}
use Rattle.pauli_word.specs.Words.{letter_at}
use Rattle.step_model.specs.Listing.{is_I}
use Rattle.step_model.proofs.RangeLemmas.{range-append}
use Rattle.fault_list.specs.FaultLines.{factor_text, factor_at}

-- those of the qubits below one
abbrev pub factors_below : List Letter → ℕ → List (List ℕ)
factors_below w q = flat_map (factor_at w) (range_with_len 0 q)

pub none_among : (w : List Letter) (from n : ℕ) → ((q : ℕ) → from ≤ q → q < from + n → letter_at w q ≡ I) → flat_map (factor_at w) (range_with_len from n) ≡ []
none_among w from zero none = refl
none_among w from (suc n) none =
    ap₂ (λ a rest. (if is_I a then [] else factor_text from a ∷ []) ++ rest)
    (none from (omega arith) (omega arith))
    (none_among w (from + 1) n (λ q after below. none q (omega (arith, after)) (omega (arith, below))))

-- those below a qubit, and so many more
pub below-append : (w : List Letter) (q n : ℕ) → factors_below w (q + n) ≡ factors_below w q ++ flat_map (factor_at w) (range_with_len q n)
below-append w q n =
    let start : 0 + q ≡ q = omega arith in
    ap (flat_map (factor_at w)) (range-append 0 q n)
    ∙ (flat_map-append (factor_at w) (range_with_len 0 q) (range_with_len (0 + q) n)
    ∙ ap (λ k. factors_below w q ++ flat_map (factor_at w) (range_with_len k n)) start)

-- qubits with I add none
pub factors_past : (w : List Letter) (from next : ℕ) → from ≤ next → ((q : ℕ) → from ≤ q → q < next → letter_at w q ≡ I) → factors_below w next ≡ factors_below w from
factors_past w from next after none =
    let split : next ≡ from + (next - from) = omega (arith, after) in
    ap (factors_below w) split
    ∙ (below-append w from (next - from)
    ∙ (ap (λ rest. factors_below w from ++ rest) (none_among w from (next - from) (λ q later below. none q later (omega (arith, below, split))))
    ∙ append-nil (factors_below w from)))
