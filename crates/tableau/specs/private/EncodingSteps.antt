-- What each step does to the rows kept. A gate replaces the rows of its qubits by the codes of the preimages of X and Z
-- there. A Pauli word changes the signs of the rows whose letter, X or Z at a qubit, anticommutes with it. A collapse, the
-- measurement of a word, looks at the word's code: where that has only I and Z the outcome is its sign, and the rows stay.
-- Otherwise the outcome is the coin. Let x be the code, its sign changed where the coin is 1, let k be the first qubit
-- where x has X or Y, and let y be x with I at k. Each row is twisted about Z at k by y, and then goes through a gate at
-- k; together these turn x into Z at k, and Z at k into X at k.
-- (Gidney, Quantum 5, 497 (2021).)
use Rattle.std.specs.Prelude.{◌≡◌, ◌<◌, ℕ, zero, suc, Bool, true, false, List, [], ◌∷◌, Option, None, Some, length, map, slice_set}
use Rattle.std.specs.List.{range_with_len}
use Rattle.gate_table.specs.declared.gate.Gate.{Gate}
use Rattle.gate_table.specs.declared.gate.Gate.TheVariants as gate
use Rattle.gate_table.specs.Images.{image1, image2, inverse_of}
use Rattle.gate_table.specs.WordImages.{image_at, preimage_at, preimage_at_two}
use Rattle.pauli_word.specs.declared.letter.Letter.{Letter}
use Rattle.pauli_word.specs.declared.letter.Letter.TheVariants.{I, X, Y, Z}
use Rattle.pauli_word.specs.Letters.{letters_clash}
use Rattle.pauli_word.specs.Parity.{exclusive_or}
use Rattle.pauli_word.specs.Words.{Signed, signed, anticommute, with_sign_changed, product, no_letters, lone_letter, letter_at, lowest_X_or_Y}
use Rattle.tableau.specs.private.CliffordMaps.{turned, twisted}
use Rattle.tableau.specs.private.Encoding.{Pair, word_of, encoded}

-- a letter at a qubit, of sign plus
abbrev pub lone : ℕ → ℕ → Letter → Signed
lone n q a = signed (lone_letter n q a) false

-- the pair of a qubit at the start: X and Z there
abbrev pub start_pair : ℕ → ℕ → Pair
start_pair n q = (lone n q X, lone n q Z)

-- those of all qubits
abbrev pub start_rows : ℕ → List Pair
start_rows n = map (start_pair n) (range_with_len 0 n)

-- what X and Z at a qubit become under a map
abbrev pub pair_under : ℕ → (Signed → Signed) → ℕ → Pair
pair_under n f q = (f (lone n q X), f (lone n q Z))

-- the word of a letter's preimage under a one-qubit gate
abbrev pub preimage_word : ℕ → Gate → Pair → Letter → Signed
preimage_word n g r a = with_sign_changed (image1 (inverse_of g) a).1 (word_of n r (image1 (inverse_of g) a).0)

-- the word of the preimage of two letters at two qubits under a two-qubit gate
abbrev pub preimage_product : ℕ → Gate → Pair → Pair → Letter × Letter → Signed
preimage_product n g r s p =
    let image = image2 (inverse_of g) p.0 p.1 in
    with_sign_changed image.2 (product (word_of n r image.0) (word_of n s image.1))

-- the rows after a one-qubit gate
abbrev pub after_one : ℕ → Gate → ℕ → List Pair → List Pair
after_one n g q rows = slice_set rows q (pair_under n (λ p. encoded n rows (preimage_at g q p)) q)

-- the rows after a two-qubit gate
abbrev pub after_two : ℕ → Gate → ℕ → ℕ → List Pair → List Pair
after_two n g a b rows =
    slice_set (slice_set rows a (pair_under n (λ p. encoded n rows (preimage_at_two g a b p)) a)) b
    (pair_under n (λ p. encoded n rows (preimage_at_two g a b p)) b)

-- the pair of a qubit after a letter is applied to it
abbrev pub pair_after : Letter → Pair → Pair
pair_after a r = (with_sign_changed (letters_clash X a) r.0, with_sign_changed (letters_clash Z a) r.1)

-- the words of two letters that clash, from those of X and Z: exchanged where one letter is the other's, and where a letter is Y
-- multiplied by the other word
abbrev pub arranged : Letter → Letter → Pair → Pair
arranged X Y r = (r.0, product r.1 r.0)
arranged Y Z r = (with_sign_changed true (product r.0 r.1), r.1)
arranged Y X r = (product r.1 r.0, r.0)
arranged Z X r = (r.1, r.0)
arranged Z Y r = (r.1, with_sign_changed true (product r.0 r.1))
arranged a b r = r

-- a word's letters before a qubit, with I from there on
abbrev pub first_letters : ℕ → List Letter → List Letter
first_letters zero w = no_letters (length w)
first_letters (suc i) [] = []
first_letters (suc i) (a ∷ w) = a ∷ first_letters i w

-- the rows after a Pauli word is applied
abbrev pub after_word : List Letter → List Pair → List Pair
after_word (a ∷ w) (r ∷ rows) = pair_after a r ∷ after_word w rows
after_word w rows = rows

-- every row mapped
abbrev pub mapped : (Signed → Signed) → List Pair → List Pair
mapped c rows = map (λ r. (c r.0, c r.1)) rows

-- the code of letters, of sign plus
abbrev pub code_of : ℕ → List Pair → List Letter → Signed
code_of n rows w = encoded n rows (signed w false)

-- a word with I at a qubit
abbrev pub without : ℕ → Signed → Signed
without k x = signed (slice_set x.letters k I) x.negative

-- a gate that turns Z into X, and turns into Z, up to sign, what the code's letter at k, X or Y, becomes in the twist
abbrev pub turning_gate : Letter → Gate
turning_gate X = gate.CXYZ
turning_gate a = gate.SqrtY

-- what a random outcome does to each row: the twist, and then the gate at k
abbrev pub row_map : ℕ → ℕ → Signed → Signed → Signed
row_map n k x v = image_at (turning_gate (letter_at x.letters k)) k (twisted (lone n k Z) (without k x) v)

-- the rows after a collapse, by the first qubit where the code has X or Y, if there is one
abbrev pub collapsed_at : ℕ → Option ℕ → Signed → List Pair → List Pair
collapsed_at n None x rows = rows
collapsed_at n (Some k) x rows = mapped (row_map n k x) rows

-- the outcome of a collapse, by that qubit
abbrev pub outcome_at : Option ℕ → Signed → Bool → Bool
outcome_at None x coin = x.negative
outcome_at (Some k) x coin = coin

-- the rows after a collapse of the word with this code
abbrev pub after_collapse : ℕ → Signed → Bool → List Pair → List Pair
after_collapse n x coin rows = collapsed_at n (lowest_X_or_Y x.letters) (with_sign_changed coin x) rows

-- the outcome of a collapse of the word with this code
abbrev pub outcome_of : Signed → Bool → Bool
outcome_of x coin = outcome_at (lowest_X_or_Y x.letters) x coin

-- the rows after a measurement that keeps no word as a destabilizer: where its outcome is random, all are turned by Z at k times
-- the code, its sign changed where the coin is 1
abbrev pub measured_at : ℕ → Option ℕ → Signed → List Pair → List Pair
measured_at n None x rows = rows
measured_at n (Some k) x rows = mapped (turned (product (lone n k Z) x)) rows

abbrev pub after_measurement : ℕ → Signed → Bool → List Pair → List Pair
after_measurement n x coin rows = measured_at n (lowest_X_or_Y x.letters) (with_sign_changed coin x) rows

-- the two words of a twist about Z at k: one with I at k, and minus its product with Z at k
pub record IsPivot (n k : ℕ) (r : Pair) : Type 0 where
  pub inside : k < n
  pub rest_size : length r.0.letters ≡ n
  pub rest : letter_at r.0.letters k ≡ I
  pub turned : r.1 ≡ with_sign_changed true (product r.0 (lone n k Z))

-- whether the words of a pair anticommute with y, which is the code with its letter a at k replaced by I: the word of X
-- does where either X clashes with the letter w measured at the pair's qubit, or its own letter at k clashes with a, but
-- not both; and so for Z
pub record ClashesAt (w a : Letter) (k : ℕ) (y : Signed) (r : Pair) : Type 0 where
  pub x : anticommute r.0.letters y.letters ≡ exclusive_or (letters_clash X w) (letters_clash (letter_at r.0.letters k) a)
  pub z : anticommute r.1.letters y.letters ≡ exclusive_or (letters_clash Z w) (letters_clash (letter_at r.1.letters k) a)

-- whether the words of a pair anticommute with m, which is Z at k times a code: the word of X does where either it has X or Y
-- at k, or X clashes with the letter w measured at the pair's qubit, but not both; and so for Z
pub record TurnsAt (w : Letter) (k : ℕ) (m : Signed) (r : Pair) : Type 0 where
  pub x : anticommute r.0.letters m.letters ≡ exclusive_or (letters_clash (letter_at r.0.letters k) Z) (letters_clash X w)
  pub z : anticommute r.1.letters m.letters ≡ exclusive_or (letters_clash (letter_at r.1.letters k) Z) (letters_clash Z w)

-- a word of I and Z alone, with its sign
pub record IsDiagonal (w : Signed) (minus : Bool) : Type 0 where
  pub lowest : lowest_X_or_Y w.letters ≡ None
  pub sign : minus ≡ w.negative
