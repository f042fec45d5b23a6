-- A row of bits and the list of the places at which it has a one.
use Rattle.std.proofs.Common.{◌≡◌, ℕ, zero, suc, ◌+◌, ◌<◌, ◌≤◌, List, [], ◌∷◌, Bool, false, length, get_or, refl, ap, ap₂, ◌∙◌, arith}
use Rattle.std.specs.Prelude.{filter}
use Rattle.std.specs.List.{range_with_len}
use Rattle.std.proofs.lemmas.List.{ext_get_or}
use Rattle.step_model.specs.TargetSets.{members, row_of_set}
use Rattle.step_model.proofs.MemberLemmas.{filter_range_left, listed_in_range}
use Rattle.step_model.proofs.RowLemmas.{get_or-row_of_set, length-row_of_set}
use Rattle.bit_rows.specs.Rows.{xor_rows}
use Rattle.pauli_word.proofs.Parities.{exclusive_or_comm}

-- of the d numbers from a on none is chosen
pub none_chosen : (p : ℕ → Bool) (a d b : ℕ) → a + d ≡ b → ((k : ℕ) → a ≤ k → k < b → p k ≡ false) → filter p (range_with_len 0 a) ≡ filter p (range_with_len 0 b)
none_chosen p a zero b e none = let same : a ≡ b = omega (arith, e) in ap (λ n. filter p (range_with_len 0 n)) same
none_chosen p a (suc d) b e none =
    let next : a + d + 1 ≡ b = omega (arith, e) in
    filter_range_left p (a + d) (filter p (range_with_len 0 a)) (none (a + d) (omega arith) (omega (arith, e)))
    (none_chosen p a d (a + d) refl (λ k low high. none k low (omega (arith, high, e))))
    ∙ ap (λ n. filter p (range_with_len 0 n)) next

pub row_of_members : (row : List Bool) → row_of_set (length row) (members row) ≡ row
row_of_members row =
    ext_get_or false (row_of_set (length row) (members row)) row (length-row_of_set (length row) (members row))
    (λ t lt. get_or-row_of_set (length row) (members row) t (omega (arith, lt, length-row_of_set (length row) (members row)))
    ∙ listed_in_range (λ k. get_or row k false) t 0 (length row) (omega arith) (omega (arith, lt, length-row_of_set (length row) (members row))))

pub xor_rows_comm : (p q : List Bool) → xor_rows p q ≡ xor_rows q p
xor_rows_comm [] [] = refl
xor_rows_comm [] (b ∷ q) = refl
xor_rows_comm (a ∷ p) [] = refl
xor_rows_comm (a ∷ p) (b ∷ q) = ap₂ (λ c row. c ∷ row) (exclusive_or_comm a b) (xor_rows_comm p q)
