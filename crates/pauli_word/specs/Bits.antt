-- Letters kept as two bits: (x, z) is I at (0, 0), X at (1, 0), Y at (1, 1) and Z at (0, 1). A word is kept as two
-- rows, its x bits and its z bits. (Aaronson and Gottesman, Phys. Rev. A 70, 052328 (2004), section III.)
use Rattle.std.specs.Prelude.{Bool, true, false, List, [], ◌∷◌}
use Rattle.pauli_word.specs.declared.letter.Letter.{Letter}
use Rattle.pauli_word.specs.declared.letter.Letter.TheVariants.{I, X, Y, Z}

-- the letter of two bits
abbrev pub letter_of : Bool → Bool → Letter
letter_of false false = I
letter_of true false = X
letter_of true true = Y
letter_of false true = Z

-- whether a letter is X or Y
abbrev pub x_bit : Letter → Bool
x_bit I = false
x_bit X = true
x_bit Y = true
x_bit Z = false

-- whether a letter is Z or Y
abbrev pub z_bit : Letter → Bool
z_bit I = false
z_bit X = false
z_bit Y = true
z_bit Z = true

-- the letters of two rows of one length
abbrev pub letters_of : List Bool → List Bool → List Letter
letters_of (a ∷ x) (b ∷ z) = letter_of a b ∷ letters_of x z
letters_of x z = []
