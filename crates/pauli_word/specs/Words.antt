-- Signed words (Stim's Pauli strings): one letter a qubit, and a sign. The product of two words is taken qubit by
-- qubit; its power of i is the product of the qubits' powers, times -1 for each minus sign. Two words commute exactly
-- when an even number of qubits clash. For two commuting words the power is 1 or -1, so their product is a signed word.
-- (Aaronson and Gottesman, Phys. Rev. A 70, 052328 (2004), section II.)
use Rattle.std.specs.Prelude.{◌≡◌, ◌≢◌, ◌<◌, ◌≤◌, Bool, true, false, if◌then◌else◌, ℕ, suc, List, [], ◌∷◌, Option, None, Some, option_map, length, replicate, slice_set, slice_index_or}
use Rattle.pauli_word.specs.Parity.{exclusive_or}
use Rattle.pauli_word.specs.declared.letter.Letter.{Letter}
use Rattle.pauli_word.specs.declared.letter.Letter.TheVariants.{I, X, Y}
use Rattle.pauli_word.specs.Letters.{Power, one, power_product, is_minus, letter_product, letter_power, letters_clash}

-- a signed word: its letters, qubit 0 first, and whether its sign is minus
pub record Signed : Type 0 where
  pub letters : List Letter
  pub negative : Bool

-- a word with a sign: true for minus
abbrev pub signed : List Letter → Bool → Signed
signed letters negative = record { letters = letters; negative = negative }

-- a word with its sign changed where b
abbrev pub with_sign_changed : Bool → Signed → Signed
with_sign_changed b p = signed p.letters (exclusive_or b p.negative)

-- the letters of the product of two words
abbrev pub letters_product : List Letter → List Letter → List Letter
letters_product (a ∷ p) (b ∷ q) = letter_product a b ∷ letters_product p q
letters_product p q = []

-- the power of i of the product of two words, their signs left out
abbrev pub letters_power : List Letter → List Letter → Power
letters_power (a ∷ p) (b ∷ q) = power_product (letter_power a b) (letters_power p q)
letters_power p q = one

-- whether an odd number of places clash
abbrev pub anticommute : List Letter → List Letter → Bool
anticommute (a ∷ p) (b ∷ q) = exclusive_or (letters_clash a b) (anticommute p q)
anticommute p q = false

-- the product of two words; where they anticommute its power of i is i or -i, and counts as 1 or -1
abbrev pub product : Signed → Signed → Signed
product p q =
    record {
      letters = letters_product p.letters q.letters;
      negative = exclusive_or (exclusive_or p.negative q.negative) (is_minus (letters_power p.letters q.letters));
    }

-- n letters I
abbrev pub no_letters : ℕ → List Letter
no_letters n = replicate n I

-- the letter of a word at a qubit
abbrev pub letter_at : List Letter → ℕ → Letter
letter_at p q = slice_index_or p q I

-- on n qubits, this letter at qubit q and I elsewhere
abbrev pub lone_letter : ℕ → ℕ → Letter → List Letter
lone_letter n q a = slice_set (no_letters n) q a

-- whether a letter is X or Y
abbrev pub has_X_or_Y : Letter → Bool
has_X_or_Y X = true
has_X_or_Y Y = true
has_X_or_Y letter = false

-- the lowest qubit at which a word has X or Y
abbrev pub lowest_X_or_Y : List Letter → Option ℕ
lowest_X_or_Y [] = None
lowest_X_or_Y (a ∷ w) = if has_X_or_Y a then Some 0 else option_map suc (lowest_X_or_Y w)

-- a word has I at each qubit from one on, before another
abbrev pub HasNoneBetween : List Letter → ℕ → ℕ → Type 0
HasNoneBetween w start end = (k : ℕ) → start ≤ k → k < end → letter_at w k ≡ I

-- the lowest qubit from one on at which a word has a letter other than I, if there is one
abbrev pub IsNextLetter : List Letter → ℕ → Option ℕ → Type 0
IsNextLetter w start None = HasNoneBetween w start (length w)
IsNextLetter w start (Some q) = (start ≤ q) × (q < length w) × (letter_at w q ≢ I) × HasNoneBetween w start q
