-- What a controlled gate does to the rows kept. It has a letter A on its first qubit and B on its second, and it undoes
-- itself: the preimage of a letter on the first qubit is that letter, with the factor B on the second where the letter
-- clashes with A; that of a letter on the second is that letter, with the factor A on the first where it clashes with B.
-- So where X or Z at a qubit clashes with the gate's letter there, its word is multiplied by the word of the gate's
-- letter on the other qubit. (Stim's gate reference: the stabilizer generators of CX, CY, CZ, XCX, XCY, XCZ.)
use Rattle.std.specs.Prelude.{◌≡◌, ◌≢◌, ◌<◌, ℕ, false, List, length, slice_set}
use Rattle.gate_table.specs.declared.gate.Gate.{Gate}
use Rattle.gate_table.specs.Images.{factor, image2, inverse_of}
use Rattle.pauli_word.specs.declared.letter.Letter.{Letter}
use Rattle.pauli_word.specs.declared.letter.Letter.TheVariants.{I, X, Y, Z}
use Rattle.pauli_word.specs.Letters.{letters_clash}
use Rattle.pauli_word.specs.Words.{Signed, anticommute, product}
use Rattle.tableau.specs.private.Encoding.{IsTableau, Pair, word_of, pair_at}

-- a gate with A on the first qubit and B on the second, of which not both are Y
pub record IsControlled (g : Gate) (A B : Letter) : Type 0 where
  pub own : A ≡ Y → B ≢ Y
  pub first_X : image2 (inverse_of g) X I ≡ (X, factor (letters_clash X A) B, false)
  pub first_Z : image2 (inverse_of g) Z I ≡ (Z, factor (letters_clash Z A) B, false)
  pub second_X : image2 (inverse_of g) I X ≡ (factor (letters_clash X B) A, X, false)
  pub second_Z : image2 (inverse_of g) I Z ≡ (factor (letters_clash Z B) A, Z, false)

-- the pair r of a qubit with the letter A, multiplied by a word of the pair s of a qubit with the letter B
abbrev pub controlled_pair : ℕ → Letter → Letter → Pair → Pair → Pair
controlled_pair n A B r s =
    (product r.0 (word_of n s (factor (letters_clash X A) B)), product r.1 (word_of n s (factor (letters_clash Z A) B)))

-- the rows after such a gate at qubits a and b
abbrev pub after_controlled : Letter → Letter → ℕ → ℕ → List Pair → List Pair
after_controlled A B a b rows =
    let n = length rows in
    let r = pair_at n rows a in
    let s = pair_at n rows b in
    slice_set (slice_set rows a (controlled_pair n A B r s)) b (controlled_pair n B A s r)

-- a controlled gate can be applied to the rows at qubits a and b
pub record CanControl (a b : ℕ) (rows : List Pair) : Type 0 where
  pub first_inside : a < length rows
  pub second_inside : b < length rows
  pub differ : a ≢ b
  pub tableau : IsTableau (length rows) rows

-- both words of a pair commute with a word
pub record CommuteWith (v : Signed) (r : Pair) : Type 0 where
  pub x : anticommute r.0.letters v.letters ≡ false
  pub z : anticommute r.1.letters v.letters ≡ false
