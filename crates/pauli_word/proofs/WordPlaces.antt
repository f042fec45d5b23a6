-- Words taken apart at a qubit: a product, its power of i and the parity of clashes are those at the qubit, and
-- those of the words with I there.
use Rattle.std.proofs.Common.{◌≡◌, false, ℕ, zero, suc, List, [], ◌∷◌, length, set, refl, ap, sym, ◌∙◌}
use Rattle.std.proofs.Math.Nat.{suc_inj}
use Rattle.pauli_word.specs.declared.letter.Letter.{Letter}
use Rattle.pauli_word.specs.declared.letter.Letter.TheVariants.{I}
use Rattle.pauli_word.specs.Letters.{Power, one, power_product, letter_product, letter_power, letters_clash}
use Rattle.pauli_word.specs.Parity.{exclusive_or}
use Rattle.pauli_word.specs.Words.{letters_product, letters_power, anticommute, letter_at}
use Rattle.pauli_word.proofs.Parities.{exclusive_or_left_comm}
use Rattle.pauli_word.proofs.PowerLaws.{power_product_assoc, power_product_comm}
use Rattle.pauli_word.proofs.LetterLaws.{letter_power-I, letter_power_of_I, letters_clash_comm, letters_clash_of_I}

power_left_comm : (p q r : Power) → power_product p (power_product q r) ≡ power_product q (power_product p r)
power_left_comm p q r =
    sym (power_product_assoc p q r) ∙ (ap (λ s. power_product s r) (power_product_comm p q) ∙ power_product_assoc q p r)

pub clash-I : (a : Letter) → letters_clash a I ≡ false
clash-I a = letters_clash_comm a I ∙ letters_clash_of_I a

pub letters_power_at : (p q : List Letter) (i : ℕ) → letters_power p q ≡ power_product (letter_power (letter_at p i) (letter_at q i)) (letters_power (set p i I) (set q i I))
letters_power_at [] [] i = refl
letters_power_at [] (b ∷ q) i = sym (ap (λ s. power_product s one) (letter_power_of_I (letter_at (b ∷ q) i)))
letters_power_at (a ∷ p) [] zero = sym (ap (λ s. power_product s one) (letter_power-I a))
letters_power_at (a ∷ p) [] (suc i) = sym (ap (λ s. power_product s one) (letter_power-I (letter_at p i)))
letters_power_at (a ∷ p) (b ∷ q) zero = refl
letters_power_at (a ∷ p) (b ∷ q) (suc i) =
    ap (power_product (letter_power a b)) (letters_power_at p q i)
    ∙ power_left_comm (letter_power a b) (letter_power (letter_at p i) (letter_at q i)) (letters_power (set p i I) (set q i I))

pub anticommute_at : (p q : List Letter) (i : ℕ) → anticommute p q ≡ exclusive_or (letters_clash (letter_at p i) (letter_at q i)) (anticommute (set p i I) (set q i I))
anticommute_at [] [] i = refl
anticommute_at [] (b ∷ q) i = sym (ap (λ s. exclusive_or s false) (letters_clash_of_I (letter_at (b ∷ q) i)))
anticommute_at (a ∷ p) [] zero = sym (ap (λ s. exclusive_or s false) (clash-I a))
anticommute_at (a ∷ p) [] (suc i) = sym (ap (λ s. exclusive_or s false) (clash-I (letter_at p i)))
anticommute_at (a ∷ p) (b ∷ q) zero = refl
anticommute_at (a ∷ p) (b ∷ q) (suc i) =
    ap (exclusive_or (letters_clash a b)) (anticommute_at p q i)
    ∙ exclusive_or_left_comm (letters_clash a b) (letters_clash (letter_at p i) (letter_at q i)) (anticommute (set p i I) (set q i I))

pub letters_product-set : (p q : List Letter) (i : ℕ) (a b : Letter) → letters_product (set p i a) (set q i b) ≡ set (letters_product p q) i (letter_product a b)
letters_product-set [] q i a b = refl
letters_product-set (c ∷ p) [] zero a b = refl
letters_product-set (c ∷ p) [] (suc i) a b = refl
letters_product-set (c ∷ p) (d ∷ q) zero a b = refl
letters_product-set (c ∷ p) (d ∷ q) (suc i) a b = ap (λ r. letter_product c d ∷ r) (letters_product-set p q i a b)

pub letter_at-product : (p q : List Letter) (i : ℕ) → length p ≡ length q → letter_at (letters_product p q) i ≡ letter_product (letter_at p i) (letter_at q i)
letter_at-product [] [] i h = refl
letter_at-product [] (b ∷ q) i h = cc
letter_at-product (a ∷ p) [] i h = cc
letter_at-product (a ∷ p) (b ∷ q) zero h = refl
letter_at-product (a ∷ p) (b ∷ q) (suc i) h = letter_at-product p q i (suc_inj h)
