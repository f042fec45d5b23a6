-- Pauli letters and their products. Each letter times itself is I; X Y = i Z, Y Z = i X and Z X = i Y, and in
-- the other order the factor is -i. Two letters clash where both are not I and they differ: these are the
-- pairs that anticommute. (Nielsen and Chuang, Quantum Computation and Quantum Information, section 10.5.1.)
use Rattle.std.specs.Prelude.{Bool, true, false}
use Rattle.pauli_word.specs.declared.letter.Letter.{Letter}
use Rattle.pauli_word.specs.declared.letter.Letter.TheVariants.{I, X, Y, Z}

-- a power of i
pub data Power : Type 0 where
  one : Power
  i : Power
  minus_one : Power
  minus_i : Power

-- a power of i, times i
abbrev pub times_i : Power → Power
times_i one = i
times_i i = minus_one
times_i minus_one = minus_i
times_i minus_i = one

-- the product of two powers of i
abbrev pub power_product : Power → Power → Power
power_product one p = p
power_product i p = times_i p
power_product minus_one p = times_i (times_i p)
power_product minus_i p = times_i (times_i (times_i p))

-- whether a power of i brings a minus sign: it does at -1 and at -i
abbrev pub is_minus : Power → Bool
is_minus minus_one = true
is_minus minus_i = true
is_minus p = false

-- a sign as a power of i: true is minus
abbrev pub sign_power : Bool → Power
sign_power false = one
sign_power true = minus_one

-- the letter of the product of two letters
abbrev pub letter_product : Letter → Letter → Letter
letter_product I b = b
letter_product a I = a
letter_product X X = I
letter_product X Y = Z
letter_product X Z = Y
letter_product Y X = Z
letter_product Y Y = I
letter_product Y Z = X
letter_product Z X = Y
letter_product Z Y = X
letter_product Z Z = I

-- the power of i of the product of two letters
abbrev pub letter_power : Letter → Letter → Power
letter_power X Y = i
letter_power Y Z = i
letter_power Z X = i
letter_power Y X = minus_i
letter_power Z Y = minus_i
letter_power X Z = minus_i
letter_power a b = one

-- whether both letters are not I and they differ
abbrev pub letters_clash : Letter → Letter → Bool
letters_clash X Y = true
letters_clash X Z = true
letters_clash Y X = true
letters_clash Y Z = true
letters_clash Z X = true
letters_clash Z Y = true
letters_clash a b = false
