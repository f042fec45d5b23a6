-- Sets as rows of bits: made from lists, added, and with a number toggled.
use Rattle.std.proofs.Common.{◌≡◌, ℕ, zero, suc, ◌+◌, ◌<◌, Bool, true, false, not, List, [], ◌∷◌, length, map, get_or, set, refl, ap, ap₂, sym, ◌∙◌, arith}
use Rattle.std.specs.Prelude.{replicate}
use Rattle.std.specs.List.{range_with_len}
use Rattle.std.proofs.Math.Nat.{suc_inj}
use Rattle.std.proofs.lemmas.Bool.{eq-eqb, ne_eqb}
use Rattle.std.proofs.lemmas.List.FromFn.{length-map-range_with_len, get_or-map-range_with_len}
use Rattle.bit_rows.specs.Rows.{xor_rows}
use Rattle.pauli_word.specs.Parity.{exclusive_or}
use Rattle.pauli_word.proofs.Parities.{exclusive_or-false}
use Rattle.step_model.specs.TargetSets.{row_of_set}
use Rattle.step_model.specs.Targets.{is_listed}
use Rattle.step_model.proofs.MemberLemmas.{set-map-range}

pub length-row_of_set : (m : ℕ) (xs : List ℕ) → length (row_of_set m xs) ≡ m
length-row_of_set m xs = length-map-range_with_len (is_listed xs) 0 m

pub get_or-row_of_set : (m : ℕ) (xs : List ℕ) (t : ℕ) → t < m → get_or (row_of_set m xs) t false ≡ is_listed xs t
get_or-row_of_set m xs t h = get_or-map-range_with_len (is_listed xs) 0 m t t false h (omega arith)

pub row_of_no_set : (m : ℕ) → row_of_set m [] ≡ replicate m false
row_of_no_set m = none 0 m
  where
    none : (k m : ℕ) → map (is_listed []) (range_with_len k m) ≡ replicate m false
    none k zero = refl
    none k (suc m) = ap (λ l. false ∷ l) (none (k + 1) m)

pub row_of_more : (m t : ℕ) (xs : List ℕ) → t < m → row_of_set m (t ∷ xs) ≡ set (row_of_set m xs) t (not (get_or (row_of_set m xs) t false))
row_of_more m t xs h =
    sym (set-map-range (is_listed xs) (is_listed (t ∷ xs)) m t (not (get_or (row_of_set m xs) t false)) h
    (ap not (get_or-row_of_set m xs t h) ∙ sym (ap (λ b. exclusive_or b (is_listed xs t)) (eq-eqb t t refl)))
    (λ r other. sym (ap (λ b. exclusive_or b (is_listed xs r)) (ne_eqb t r (λ e. other (sym e))))))

-- a set of none changes no row
pub none_added : (row : List Bool) (k n : ℕ) → length row ≡ n → xor_rows row (map (is_listed []) (range_with_len k n)) ≡ row
none_added [] k n h = refl
none_added (b ∷ row) k zero h = cc
none_added (b ∷ row) k (suc n) h = ap₂ (λ c r. c ∷ r) (exclusive_or-false b) (none_added row (k + 1) n (suc_inj h))

-- a target toggled in a sum is toggled in what is added
not_of_sum : (a b : Bool) → not (exclusive_or a b) ≡ exclusive_or a (not b)
not_of_sum true true = refl
not_of_sum true false = refl
not_of_sum false b = refl

pub toggled_sum : (p q : List Bool) (t : ℕ) → length p ≡ length q → set (xor_rows p q) t (not (get_or (xor_rows p q) t false)) ≡ xor_rows p (set q t (not (get_or q t false)))
toggled_sum [] [] t h = refl
toggled_sum [] (b ∷ q) t h = cc
toggled_sum (a ∷ p) [] t h = cc
toggled_sum (a ∷ p) (b ∷ q) zero h = ap (λ c. c ∷ xor_rows p q) (not_of_sum a b)
toggled_sum (a ∷ p) (b ∷ q) (suc t) h = ap (λ r. exclusive_or a b ∷ r) (toggled_sum p q t (suc_inj h))
