-- Columns of letters kept as two rows of bits.
use Rattle.std.proofs.Common.{◌≡◌, ℕ, get_or, set, Bool, true, false, ◌&&◌, List, [], ◌∷◌, map, length, refl, ap, ap₂, sym, ◌∙◌}
use Rattle.std.proofs.Math.Nat.{suc_inj}
use Rattle.std.proofs.lemmas.Bool.{and_parts}
use Rattle.bit_rows.specs.Rows.{xor_rows}
use Rattle.pauli_word.specs.declared.letter.Letter.{Letter}
use Rattle.pauli_word.specs.Bits.{letter_of, x_bit, z_bit, letters_of}
use Rattle.pauli_word.specs.Letters.{letter_product, letters_clash}
use Rattle.pauli_word.specs.Parity.{exclusive_or}
use Rattle.pauli_word.specs.Words.{letters_product}
use Rattle.pauli_word.proofs.BitWords.{length-letters_of, letters_of-set_bits, letter_at-letters_of}
use Rattle.pauli_word.proofs.LetterTests.{each_letter, at_letter, each_two_letters, at_two_letters, same_letter, same_letter-true}
use Rattle.pauli_word.proofs.Parities.{exclusive_or-false, exclusive_or_assoc, same_truth, same_truth-true, each_two_truths, at_two_truths}
use Rattle.trackers.specs.private.Transposed.{combined, xor_where, flipped_where, times_at}

pub xor_where-false : (p q : List Bool) → xor_where false p q ≡ p
xor_where-false [] q = refl
xor_where-false (a ∷ p) [] = refl
xor_where-false (a ∷ p) (b ∷ q) = ap₂ (λ c r. c ∷ r) (exclusive_or-false a) (xor_where-false p q)

pub xor_where-true : (p q : List Bool) → length p ≡ length q → xor_where true p q ≡ xor_rows p q
xor_where-true [] q h = refl
xor_where-true (a ∷ p) [] h = cc
xor_where-true (a ∷ p) (b ∷ q) h = ap (λ r. exclusive_or a b ∷ r) (xor_where-true p q (suc_inj h))

-- one place
image_test : Letter → Letter → Bool → Bool → Letter → Bool
image_test x z a b c =
    same_letter
    (letter_of (exclusive_or (exclusive_or a (x_bit x && x_bit c)) (x_bit z && z_bit c)) (exclusive_or (exclusive_or b (z_bit x && x_bit c)) (z_bit z && z_bit c)))
    (letter_product (letter_of a b) (combined x z c))

image_tests : each_two_letters (λ x z. each_two_truths (λ a b. each_letter (image_test x z a b))) ≡ true
unfolding image_test
image_tests = refl

image_at_place : (x z : Letter) (a b : Bool) (c : Letter) → letter_of (exclusive_or (exclusive_or a (x_bit x && x_bit c)) (x_bit z && z_bit c)) (exclusive_or (exclusive_or b (z_bit x && x_bit c)) (z_bit z && z_bit c)) ≡ letter_product (letter_of a b) (combined x z c)
unfolding image_test
image_at_place x z a b c =
    same_letter-true _ _
    (at_letter (image_test x z a b)
    (at_two_truths (λ a b. each_letter (image_test x z a b))
    (at_two_letters (λ x z. each_two_truths (λ a b. each_letter (image_test x z a b))) image_tests x z) a b) c)

pub image_of_letters : (x z : Letter) (sx sz : List Bool) (w : List Letter) → length sx ≡ length sz → length w ≡ length sx
    → letters_of (xor_where (x_bit z) (xor_where (x_bit x) sx (map x_bit w)) (map z_bit w)) (xor_where (z_bit z) (xor_where (z_bit x) sz (map x_bit w)) (map z_bit w))
    ≡ letters_product (letters_of sx sz) (map (combined x z) w)
image_of_letters x z [] sz w h k = refl
image_of_letters x z (a ∷ sx) [] w h k = cc
image_of_letters x z (a ∷ sx) (b ∷ sz) [] h k = cc
image_of_letters x z (a ∷ sx) (b ∷ sz) (c ∷ w) h k =
    ap₂ (λ e p. e ∷ p) (image_at_place x z a b c) (image_of_letters x z sx sz w (suc_inj h) (suc_inj k))

clash_test : Letter → Letter → Bool
clash_test letter c = same_truth (exclusive_or (z_bit letter && x_bit c) (x_bit letter && z_bit c)) (letters_clash letter c)

clash_tests : each_two_letters clash_test ≡ true
unfolding clash_test
clash_tests = refl

clash_at_place : (letter c : Letter) → exclusive_or (z_bit letter && x_bit c) (x_bit letter && z_bit c) ≡ letters_clash letter c
unfolding clash_test
clash_at_place letter c = same_truth-true _ _ (at_two_letters clash_test clash_tests letter c)

pub clashes_of_letters : (letter : Letter) (row : List Bool) (w : List Letter) → length row ≡ length w
    → xor_where (x_bit letter) (xor_where (z_bit letter) row (map x_bit w)) (map z_bit w) ≡ xor_rows row (map (letters_clash letter) w)
clashes_of_letters letter [] w h = refl
clashes_of_letters letter (a ∷ row) [] h = cc
clashes_of_letters letter (a ∷ row) (c ∷ w) h =
    ap₂ (λ e p. e ∷ p) (exclusive_or_assoc a (z_bit letter && x_bit c) (x_bit letter && z_bit c) ∙ ap (exclusive_or a) (clash_at_place letter c))
    (clashes_of_letters letter row w (suc_inj h))

-- a column is as long as its rows
pub rows_long : (x z : List Bool) (column : List Letter) → length x ≡ length z → letters_of x z ≡ column → length column ≡ length x
rows_long x z column h e = sym (ap length e) ∙ length-letters_of x z h

-- and stays so while they stay as long
pub stays_long : (x z p q : List Bool) (column : List Letter) → length x ≡ length z → letters_of x z ≡ column → length p ≡ length x → length q ≡ length z → length (letters_of p q) ≡ length column
stays_long x z p q column h e px qz = length-letters_of p q (px ∙ (h ∙ sym qz)) ∙ (px ∙ sym (rows_long x z column h e))

-- a letter multiplied in at a place turns its bits there
times_test : Letter → Bool → Bool → Bool
times_test letter a b =
    same_truth (exclusive_or (x_bit letter) a) (x_bit (letter_product letter (letter_of a b)))
    && same_truth (exclusive_or (z_bit letter) b) (z_bit (letter_product letter (letter_of a b)))

times_tests : each_letter (λ letter. each_two_truths (times_test letter)) ≡ true
unfolding times_test
times_tests = refl

bits_of_product : (letter : Letter) (a b : Bool) → (exclusive_or (x_bit letter) a ≡ x_bit (letter_product letter (letter_of a b))) × (exclusive_or (z_bit letter) b ≡ z_bit (letter_product letter (letter_of a b)))
unfolding times_test
bits_of_product letter a b =
    let passes = and_parts _ _ (at_two_truths (times_test letter) (at_letter (λ letter. each_two_truths (times_test letter)) times_tests letter) a b) in
    (same_truth-true _ _ passes.0, same_truth-true _ _ passes.1)

pub flipped_rows : (letter : Letter) (t : ℕ) (x z : List Bool) → length x ≡ length z → letters_of (flipped_where (x_bit letter) t x) (flipped_where (z_bit letter) t z) ≡ times_at letter t (letters_of x z)
flipped_rows letter t x z h =
    let a = get_or x t false in
    let b = get_or z t false in
    let both = bits_of_product letter a b in
    ap₂ (λ c d. letters_of (set x t c) (set z t d)) both.0 both.1
    ∙ (letters_of-set_bits x z t (letter_product letter (letter_of a b))
    ∙ ap (λ c. set (letters_of x z) t (letter_product letter c)) (sym (letter_at-letters_of x z t h)))
