-- What holds of the images under every gate, as of any conjugation by a unitary: they keep products and which
-- letters clash, and the inverse of a gate undoes it. A sign stands here as the power 1 or -1 of i.
-- (Nielsen and Chuang, Quantum Computation and Quantum Information, section 10.5.2.)
-- (Stim's gate reference, github.com/quantumlib/Stim, doc/gates.md.)
use Rattle.std.specs.Prelude.{◌≡◌, false}
use Rattle.pauli_word.specs.Parity.{exclusive_or}
use Rattle.pauli_word.specs.declared.letter.Letter.{Letter}
use Rattle.pauli_word.specs.Letters.{power_product, sign_power, letter_product, letter_power, letters_clash}
use Rattle.gate_table.specs.declared.gate.Gate.{Gate}
use Rattle.gate_table.specs.Images.{arity_of, image1, image2, inverse_of, pair_power}

-- the image of the product of two letters is the product of their images
pub record KeepsProduct (g : Gate) (a b : Letter) : Type 0 where
  pub letter : (image1 g (letter_product a b)).0 ≡ letter_product (image1 g a).0 (image1 g b).0
  pub power :
      power_product (letter_power a b) (sign_power (image1 g (letter_product a b)).1)
      ≡ power_product (sign_power (exclusive_or (image1 g a).1 (image1 g b).1)) (letter_power (image1 g a).0 (image1 g b).0)

-- the same for two pairs, a b and c d
pub record KeepsPairProduct (g : Gate) (a b c d : Letter) : Type 0 where
  pub first : (image2 g (letter_product a c) (letter_product b d)).0 ≡ letter_product (image2 g a b).0 (image2 g c d).0
  pub second : (image2 g (letter_product a c) (letter_product b d)).1 ≡ letter_product (image2 g a b).1 (image2 g c d).1
  pub power :
      power_product (pair_power a b c d) (sign_power (image2 g (letter_product a c) (letter_product b d)).2)
      ≡ power_product (sign_power (exclusive_or (image2 g a b).2 (image2 g c d).2))
      (pair_power (image2 g a b).0 (image2 g a b).1 (image2 g c d).0 (image2 g c d).1)

-- the images of two letters clash exactly where the letters do
abbrev pub KeepsClash : Gate → Letter → Letter → Type 0
KeepsClash g a b = letters_clash (image1 g a).0 (image1 g b).0 ≡ letters_clash a b

-- the images of two pairs, a b and c d, anticommute exactly where the pairs do: where they clash at one place alone
abbrev pub KeepsPairClash : Gate → Letter → Letter → Letter → Letter → Type 0
KeepsPairClash g a b c d =
    exclusive_or (letters_clash (image2 g a b).0 (image2 g c d).0) (letters_clash (image2 g a b).1 (image2 g c d).1)
    ≡ exclusive_or (letters_clash a c) (letters_clash b d)

-- the image under g of the image under h is the letter itself, of sign plus
pub record Undoes (g h : Gate) (a : Letter) : Type 0 where
  pub letter : (image1 g (image1 h a).0).0 ≡ a
  pub sign : exclusive_or (image1 g (image1 h a).0).1 (image1 h a).1 ≡ false

-- the same for a pair
pub record UndoesPair (g h : Gate) (a b : Letter) : Type 0 where
  pub first : (image2 g (image2 h a b).0 (image2 h a b).1).0 ≡ a
  pub second : (image2 g (image2 h a b).0 (image2 h a b).1).1 ≡ b
  pub sign : exclusive_or (image2 g (image2 h a b).0 (image2 h a b).1).2 (image2 h a b).2 ≡ false

-- a gate undoes its inverse and its inverse undoes it, on letters and on pairs
pub record IsUndoneByInverse (g : Gate) : Type 0 where
  pub before : (a : Letter) → Undoes g (inverse_of g) a
  pub after : (a : Letter) → Undoes (inverse_of g) g a
  pub pair_before : (a b : Letter) → UndoesPair g (inverse_of g) a b
  pub pair_after : (a b : Letter) → UndoesPair (inverse_of g) g a b
  pub inverse : inverse_of (inverse_of g) ≡ g
  pub arity : arity_of (inverse_of g) ≡ arity_of g
