-- A set of targets, made by toggling each, multiplies their letters where it is added to a column.
use Rattle.std.proofs.Common.{◌≡◌, ℕ, zero, suc, ◌<◌, Bool, true, false, not, ◌&&◌, List, [], ◌∷◌, length, refl, ap, ap₂, sym, ◌∙◌, arith}
use Rattle.std.specs.Prelude.{All, replicate}
use Rattle.std.proofs.Math.Nat.{suc_inj}
use Rattle.pauli_word.specs.declared.letter.Letter.{Letter}
use Rattle.pauli_word.specs.Bits.{x_bit, z_bit, letters_of}
use Rattle.pauli_word.specs.Parity.{exclusive_or}
use Rattle.pauli_word.proofs.Parities.{exclusive_or-false}
use Rattle.step_model.specs.TargetSets.{row_of_set, toggled}
use Rattle.trackers.specs.private.Transposed.{xor_where, flipped_where, times_at, times_each}
use Rattle.trackers.proofs.ColumnLemmas.{flipped_rows}
use Rattle.step_model.proofs.RowLemmas.{length-row_of_set, row_of_more, row_of_no_set}
use Rattle.trackers.proofs.TimesEach.{one_before}

length-xor_where : (b : Bool) (p q : List Bool) → length (xor_where b p q) ≡ length p
length-xor_where b [] q = refl
length-xor_where b (a ∷ p) [] = refl
length-xor_where b (a ∷ p) (c ∷ q) = ap suc (length-xor_where b p q)

none_kept : (a b : Bool) → exclusive_or a (b && false) ≡ a
none_kept a true = exclusive_or-false a
none_kept a false = exclusive_or-false a

xor_where-none : (b : Bool) (p : List Bool) (n : ℕ) → length p ≡ n → xor_where b p (replicate n false) ≡ p
xor_where-none b [] n h = refl
xor_where-none b (a ∷ p) zero h = cc
xor_where-none b (a ∷ p) (suc n) h = ap₂ (λ c r. c ∷ r) (none_kept a b) (xor_where-none b p n (suc_inj h))

turned : (a b c : Bool) → exclusive_or a (b && not c) ≡ exclusive_or b (exclusive_or a (b && c))
turned true true true = refl
turned true true false = refl
turned true false true = refl
turned true false false = refl
turned false true true = refl
turned false true false = refl
turned false false true = refl
turned false false false = refl

xor_where-toggled : (b : Bool) (p q : List Bool) (t : ℕ) → length p ≡ length q → t < length p → xor_where b p (toggled t q) ≡ flipped_where b t (xor_where b p q)
xor_where-toggled b [] q t h lt = absurd (omega (arith, lt))
xor_where-toggled b (a ∷ p) [] t h lt = cc
xor_where-toggled b (a ∷ p) (c ∷ q) zero h lt = ap (λ d. d ∷ xor_where b p q) (turned a b c)
xor_where-toggled b (a ∷ p) (c ∷ q) (suc t) h lt = ap (λ r. exclusive_or a (b && c) ∷ r) (xor_where-toggled b p q t (suc_inj h) (omega (arith, lt)))

-- the set of some targets, added to a column's X bits where a letter has X in it, and to its Z bits where the letter has
-- Z, multiplies the column by the letter at each of them
pub times_by_set : (letter : Letter) (targets : List ℕ) (m : ℕ) (x z : List Bool) → All (λ t. t < m) targets → length x ≡ m → length z ≡ m
    → letters_of (xor_where (x_bit letter) x (row_of_set m targets)) (xor_where (z_bit letter) z (row_of_set m targets)) ≡ times_each letter targets (letters_of x z)
times_by_set letter [] m x z fits h k =
    ap₂ (λ p q. letters_of (xor_where (x_bit letter) x p) (xor_where (z_bit letter) z q)) (row_of_no_set m) (row_of_no_set m)
    ∙ ap₂ letters_of (xor_where-none (x_bit letter) x m h) (xor_where-none (z_bit letter) z m k)
times_by_set letter (t ∷ targets) m x z fits h k =
    let low : t < m = fits 0 t (omega arith) in
    let row = row_of_set m targets in
    let long = length-row_of_set m targets in
    let px = xor_where (x_bit letter) x row in
    let pz = xor_where (z_bit letter) z row in
    ap₂ (λ p q. letters_of (xor_where (x_bit letter) x p) (xor_where (z_bit letter) z q)) (row_of_more m t targets low) (row_of_more m t targets low)
    ∙ (ap₂ letters_of (xor_where-toggled (x_bit letter) x row t (h ∙ sym long) (omega (arith, low, h))) (xor_where-toggled (z_bit letter) z row t (k ∙ sym long) (omega (arith, low, k)))
    ∙ (flipped_rows letter t px pz (omega (arith, length-xor_where (x_bit letter) x row, length-xor_where (z_bit letter) z row, h, k))
    ∙ (ap (times_at letter t) (times_by_set letter targets m x z (λ i d within. fits (suc i) d (omega (arith, within))) h k)
    ∙ one_before letter (t ∷ targets) (letters_of x z) 0 1 refl (omega arith))))
