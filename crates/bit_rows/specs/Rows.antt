-- Rows of bits as lists of truth values. Two rows of equal length are combined place by place.
-- A pair of rows stands for a Pauli word: at each place, the bits (x, z) are I at (0, 0), X at (1, 0), Y at
-- (1, 1) and Z at (0, 1). Each letter times itself is I; X Y = i Z, Y Z = i X, Z X = i Y, and in the other order the
-- factor is -i. The factor of two words is the product over the places. (Aaronson and Gottesman, Phys. Rev. A 70,
-- 052328 (2004), section III, where the power of i at a place is called g.)
use Rattle.std.specs.Prelude.{◌≡◌, Bool, true, false, not, ◌&&◌, ℕ, ◌+◌, ◌%◌, List, [], ◌∷◌, slice_index_or}
use Rattle.std.specs.Prelude.{Option, Some, None}

-- whether exactly one of two is true
abbrev pub exclusive_or : Bool → Bool → Bool
exclusive_or false b = b
exclusive_or true b = not b

-- the exclusive or of two rows, place by place
abbrev pub xor_rows : List Bool → List Bool → List Bool
xor_rows (a ∷ p) (b ∷ q) = exclusive_or a b ∷ xor_rows p q
xor_rows p q = []

-- whether the number of places with both bits set is odd
abbrev pub and_parity_of : List Bool → List Bool → Bool
and_parity_of (a ∷ p) (b ∷ q) = exclusive_or (a && b) (and_parity_of p q)
and_parity_of p q = false

-- the power of i of the product of the letter (xa, za) with the letter (xb, zb)
abbrev pub letter_phase : (xa za xb zb : Bool) → ℕ
letter_phase true false true true = 1
letter_phase true true false true = 1
letter_phase false true true false = 1
letter_phase true true true false = 3
letter_phase false true true true = 3
letter_phase true false false true = 3
letter_phase xa za xb zb = 0

-- the sum of the powers of i over the places of two words
abbrev pub phase_sum : (xa za xb zb : List Bool) → ℕ
phase_sum (a ∷ xa) (b ∷ za) (c ∷ xb) (d ∷ zb) = letter_phase a b c d + phase_sum xa za xb zb
phase_sum xa za xb zb = 0

-- the power of i, 0 to 3, of the product of two words
abbrev pub phase_of : (xa za xb zb : List Bool) → ℕ
phase_of xa za xb zb = phase_sum xa za xb zb % 4

-- the first place with a set bit
abbrev pub first_one_of : List Bool → Option ℕ
first_one_of [] = None
first_one_of (true ∷ p) = Some 0
first_one_of (false ∷ p) = one_later (first_one_of p)
  where
    one_later : Option ℕ → Option ℕ
    one_later None = None
    one_later (Some i) = Some (i + 1)

-- neither of two rows has a one at a place
abbrev pub AreZeroAt : ℕ → List Bool → List Bool → Type 0
AreZeroAt k p q = (slice_index_or p k false ≡ false) × (slice_index_or q k false ≡ false)
