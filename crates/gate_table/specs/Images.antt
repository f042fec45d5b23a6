-- The image of every letter, and of every pair of letters, under a gate. The image of Y is that of i times X
-- times Z, and the image of a pair a b is that of a I times that of I b: conjugation keeps products.
-- A controlled gate has a letter A on its first qubit and B on its second. The image of a letter on the first
-- qubit is that letter, with the factor B on the second where the letter clashes with A; the image of a letter
-- on the second is that letter, with the factor A on the first where the letter clashes with B.
-- (Stim's gate reference, github.com/quantumlib/Stim, doc/gates.md.)
use Rattle.std.specs.Prelude.{Bool, true, false, ℕ}
use Rattle.pauli_word.specs.declared.letter.Letter.{Letter}
use Rattle.pauli_word.specs.declared.letter.Letter.TheVariants.{I, X, Y, Z}
use Rattle.pauli_word.specs.Letters.{Power, one, i, power_product, is_minus, sign_power, letter_product, letter_power, letters_clash}
use Rattle.gate_table.specs.declared.gate.Gate.{Gate}
use Rattle.gate_table.specs.Table.{SignedLetter, SignedPair, plus, Row, one_qubit, controlled, two_qubit, row_of}

-- the product of two signed letters, times a power of i: where all powers come to 1 or -1, a signed letter
abbrev pub signed_product : Power → SignedLetter → SignedLetter → SignedLetter
signed_product p a b =
    let power = power_product p (power_product (power_product (sign_power a.1) (sign_power b.1)) (letter_power a.0 b.0))
    in (letter_product a.0 b.0, is_minus power)

-- the power of i of the product of two pairs of letters
abbrev pub pair_power : Letter → Letter → Letter → Letter → Power
pair_power a b c d = power_product (letter_power a c) (letter_power b d)

-- the product of two signed pairs, times a power of i
abbrev pub signed_pair_product : Power → SignedPair → SignedPair → SignedPair
signed_pair_product p a b =
    let power = power_product p (power_product (power_product (sign_power a.2) (sign_power b.2)) (pair_power a.0 a.1 b.0 b.1))
    in (letter_product a.0 b.0, letter_product a.1 b.1, is_minus power)

-- the image of a letter, from those of X and Z
abbrev pub letter_image : SignedLetter → SignedLetter → Letter → SignedLetter
letter_image x z I = (I, plus)
letter_image x z X = x
letter_image x z Y = signed_product i x z
letter_image x z Z = z

-- the image of a letter at one place of a pair and I at the other, from those of X and Z at that place
abbrev pub place_image : SignedPair → SignedPair → Letter → SignedPair
place_image x z I = (I, I, plus)
place_image x z X = x
place_image x z Y = signed_pair_product i x z
place_image x z Z = z

-- the image of a pair, from those of X I, Z I, I X and I Z
abbrev pub pair_image : SignedPair → SignedPair → SignedPair → SignedPair → Letter → Letter → SignedPair
pair_image xi zi ix iz a b = signed_pair_product one (place_image xi zi a) (place_image ix iz b)

-- the letter where it is a factor, otherwise I
abbrev pub factor : Bool → Letter → Letter
factor true a = a
factor false a = I

-- the image of a letter on the first qubit under a gate with A on the first qubit and B on the second
abbrev pub first_image : Letter → Letter → Letter → SignedPair
first_image A B a = (a, factor (letters_clash a A) B, plus)

-- that of a letter on the second qubit
abbrev pub second_image : Letter → Letter → Letter → SignedPair
second_image A B b = (factor (letters_clash b B) A, b, plus)

-- how many qubits a gate acts on, by its row of the table
abbrev pub row_arity : Row → ℕ
row_arity (one_qubit x z g) = 1
row_arity (controlled a b) = 2
row_arity (two_qubit xi zi ix iz g) = 2

-- how many qubits a gate acts on
abbrev pub arity_of : Gate → ℕ
arity_of g = row_arity (row_of g)

-- the image of a letter under a one-qubit gate, by the gate's row; any other gate leaves it as it is
abbrev pub row_image1 : Row → Letter → Letter × Bool
row_image1 (one_qubit x z g) a = letter_image x z a
row_image1 (controlled A B) a = (a, plus)
row_image1 (two_qubit xi zi ix iz g) a = (a, plus)

-- the image of a letter under a one-qubit gate
abbrev pub image1 : Gate → Letter → Letter × Bool
image1 g a = row_image1 (row_of g) a

-- the image of a pair of letters under a two-qubit gate, by the gate's row; any other gate leaves it as it is
abbrev pub row_image2 : Row → Letter → Letter → Letter × Letter × Bool
row_image2 (one_qubit x z g) a b = (a, b, plus)
row_image2 (controlled A B) a b =
    pair_image (first_image A B X) (first_image A B Z) (second_image A B X) (second_image A B Z) a b
row_image2 (two_qubit xi zi ix iz g) a b = pair_image xi zi ix iz a b

-- the image of a pair of letters under a two-qubit gate
abbrev pub image2 : Gate → Letter → Letter → Letter × Letter × Bool
image2 g a b = row_image2 (row_of g) a b

-- the gate that undoes a gate, by its row: a controlled gate undoes itself
abbrev pub row_inverse : Gate → Row → Gate
row_inverse g (one_qubit x z h) = h
row_inverse g (controlled a b) = g
row_inverse g (two_qubit xi zi ix iz h) = h

-- the gate that undoes a gate
abbrev pub inverse_of : Gate → Gate
inverse_of g = row_inverse g (row_of g)
