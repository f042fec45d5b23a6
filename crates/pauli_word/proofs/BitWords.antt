-- Words kept as two rows of bits: the rows' sums, common ones and powers of i are the words' products, clashes and
-- powers.
use Rattle.std.proofs.Common.{◌≡◌, Bool, true, false, not, ◌&&◌, ℕ, zero, suc, ◌+◌, ◌%◌, leb, List, [], ◌∷◌, length, replicate, set, get_or, refl, ap, ap₂, sym, ◌∙◌, arith}
use Rattle.std.proofs.Math.Bool.{beq}
use Rattle.std.proofs.Math.Nat.{suc_inj}
use Rattle.bit_rows.specs.Rows.{xor_rows, and_parity_of, letter_phase, phase_sum, phase_of}
use Rattle.pauli_word.specs.declared.letter.Letter.{Letter}
use Rattle.pauli_word.specs.declared.letter.Letter.TheVariants.{I}
use Rattle.pauli_word.specs.Bits.{letter_of, x_bit, z_bit, letters_of}
use Rattle.pauli_word.specs.Letters.{Power, one, times_i, power_product, is_minus, letter_product, letter_power, letters_clash}
use Rattle.pauli_word.specs.Parity.{exclusive_or}
use Rattle.pauli_word.specs.Words.{Signed, product, letters_product, letters_power, anticommute, letter_at, no_letters}
use Rattle.pauli_word.proofs.LetterTests.{letter_of-bits, same_letter, same_letter-true, same_power, same_power-true}
use Rattle.pauli_word.proofs.Parities.{exclusive_or_middle, same_truth, same_truth-true, at_four_truths}
use Rattle.pauli_word.proofs.PowerLaws.{four_times_i, times_i-power_product}

pub length-letters_of : (x z : List Bool) → length x ≡ length z → length (letters_of x z) ≡ length x
length-letters_of [] z h = refl
length-letters_of (a ∷ x) [] h = cc
length-letters_of (a ∷ x) (b ∷ z) h = ap suc (length-letters_of x z (suc_inj h))

pub letters_of-zeros : (n : ℕ) → letters_of (replicate n false) (replicate n false) ≡ no_letters n
letters_of-zeros zero = refl
letters_of-zeros (suc n) = ap (λ p. I ∷ p) (letters_of-zeros n)

pub letter_at-letters_of : (x z : List Bool) (i : ℕ) → length x ≡ length z → letter_at (letters_of x z) i ≡ letter_of (get_or x i false) (get_or z i false)
letter_at-letters_of [] [] i h = refl
letter_at-letters_of [] (b ∷ z) i h = cc
letter_at-letters_of (a ∷ x) [] i h = cc
letter_at-letters_of (a ∷ x) (b ∷ z) zero h = refl
letter_at-letters_of (a ∷ x) (b ∷ z) (suc i) h = letter_at-letters_of x z i (suc_inj h)

letters_of-set : (x z : List Bool) (i : ℕ) (b c : Bool) → letters_of (set x i b) (set z i c) ≡ set (letters_of x z) i (letter_of b c)
letters_of-set [] z i b c = refl
letters_of-set (a ∷ x) [] zero b c = refl
letters_of-set (a ∷ x) [] (suc i) b c = refl
letters_of-set (a ∷ x) (d ∷ z) zero b c = refl
letters_of-set (a ∷ x) (d ∷ z) (suc i) b c = ap (λ p. letter_of a d ∷ p) (letters_of-set x z i b c)

pub letters_of-set_bits : (x z : List Bool) (i : ℕ) (a : Letter) → letters_of (set x i (x_bit a)) (set z i (z_bit a)) ≡ set (letters_of x z) i a
letters_of-set_bits x z i a = letters_of-set x z i (x_bit a) (z_bit a) ∙ ap (set (letters_of x z) i) (letter_of-bits a)

-- ---- products
letter_product_of_bits : (a b c d : Bool) → letter_of (exclusive_or a c) (exclusive_or b d) ≡ letter_product (letter_of a b) (letter_of c d)
letter_product_of_bits a b c d =
    same_letter-true _ _
    (at_four_truths (λ a b c d. same_letter (letter_of (exclusive_or a c) (exclusive_or b d)) (letter_product (letter_of a b) (letter_of c d))) refl a b c d)

pub letters_of-xor_rows : (xa za xb zb : List Bool) → letters_of (xor_rows xa xb) (xor_rows za zb) ≡ letters_product (letters_of xa za) (letters_of xb zb)
letters_of-xor_rows [] za xb zb = refl
letters_of-xor_rows (a ∷ xa) [] [] zb = refl
letters_of-xor_rows (a ∷ xa) [] (c ∷ xb) zb = refl
letters_of-xor_rows (a ∷ xa) (b ∷ za) [] zb = refl
letters_of-xor_rows (a ∷ xa) (b ∷ za) (c ∷ xb) [] = refl
letters_of-xor_rows (a ∷ xa) (b ∷ za) (c ∷ xb) (d ∷ zb) =
    ap₂ (λ l p. l ∷ p) (letter_product_of_bits a b c d) (letters_of-xor_rows xa za xb zb)

-- ---- clashes
clash_of_bits : (a b c d : Bool) → letters_clash (letter_of a b) (letter_of c d) ≡ exclusive_or (a && d) (b && c)
clash_of_bits a b c d =
    same_truth-true _ _
    (at_four_truths (λ a b c d. same_truth (letters_clash (letter_of a b) (letter_of c d)) (exclusive_or (a && d) (b && c))) refl a b c d)

pub anticommute-letters_of : (xa za xb zb : List Bool) → length za ≡ length xa → length xb ≡ length xa → length zb ≡ length xa
    → anticommute (letters_of xa za) (letters_of xb zb) ≡ exclusive_or (and_parity_of xa zb) (and_parity_of za xb)
anticommute-letters_of [] [] xb zb h k l = refl
anticommute-letters_of [] (b ∷ za) xb zb h k l = cc
anticommute-letters_of (a ∷ xa) [] xb zb h k l = cc
anticommute-letters_of (a ∷ xa) (b ∷ za) [] zb h k l = cc
anticommute-letters_of (a ∷ xa) (b ∷ za) (c ∷ xb) [] h k l = cc
anticommute-letters_of (a ∷ xa) (b ∷ za) (c ∷ xb) (d ∷ zb) h k l =
    ap₂ exclusive_or (clash_of_bits a b c d)
    (anticommute-letters_of xa za xb zb (suc_inj h) (suc_inj k) (suc_inj l))
    ∙ exclusive_or_middle (a && d) (b && c) (and_parity_of xa zb) (and_parity_of za xb)

-- ---- powers of i: those that rows count, as those of letters
abbrev pub turns : ℕ → Power
turns zero = one
turns (suc n) = times_i (turns n)

turns-add : (m n : ℕ) → turns (m + n) ≡ power_product (turns m) (turns n)
turns-add zero n =
    let none : zero + n ≡ n = omega arith in
    ap turns none
turns-add (suc m) n =
    let more : suc m + n ≡ suc (m + n) = omega arith in
    ap turns more ∙ ap times_i (turns-add m n) ∙ sym (times_i-power_product (turns m) (turns n))

power_of_bits : (a b c d : Bool) → letter_power (letter_of a b) (letter_of c d) ≡ turns (letter_phase a b c d)
power_of_bits a b c d =
    same_power-true _ _
    (at_four_truths (λ a b c d. same_power (letter_power (letter_of a b) (letter_of c d)) (turns (letter_phase a b c d))) refl a b c d)

letters_power-letters_of : (xa za xb zb : List Bool) → letters_power (letters_of xa za) (letters_of xb zb) ≡ turns (phase_sum xa za xb zb)
letters_power-letters_of [] za xb zb = refl
letters_power-letters_of (a ∷ xa) [] xb zb = refl
letters_power-letters_of (a ∷ xa) (b ∷ za) [] zb = refl
letters_power-letters_of (a ∷ xa) (b ∷ za) (c ∷ xb) [] = refl
letters_power-letters_of (a ∷ xa) (b ∷ za) (c ∷ xb) (d ∷ zb) =
    ap₂ power_product (power_of_bits a b c d) (letters_power-letters_of xa za xb zb)
    ∙ sym (turns-add (letter_phase a b c d) (phase_sum xa za xb zb))

minus_of_turns : (n : ℕ) → leb 2 (n % 4) ≡ is_minus (turns n)
minus_of_turns zero = refl
minus_of_turns (suc zero) = refl
minus_of_turns (suc (suc zero)) = refl
minus_of_turns (suc (suc (suc zero))) = refl
minus_of_turns (suc (suc (suc (suc n)))) =
    let round : suc (suc (suc (suc n))) % 4 ≡ n % 4 = omega arith in
    ap (leb 2) round ∙ minus_of_turns n ∙ sym (ap is_minus (four_times_i (turns n)))

minus_of_rows : (xa za xb zb : List Bool) → leb 2 (phase_of xa za xb zb) ≡ is_minus (letters_power (letters_of xa za) (letters_of xb zb))
minus_of_rows xa za xb zb = minus_of_turns (phase_sum xa za xb zb) ∙ sym (ap is_minus (letters_power-letters_of xa za xb zb))

-- ---- words that are seen of two rows and a sign
abbrev pub signed : List Letter → Bool → Signed
signed letters negative = record { letters = letters; negative = negative }

abbrev pub seen : List Bool → List Bool → Bool → Signed
seen x z negative = signed (letters_of x z) negative

pub seen_length : (x z : List Bool) (negative : Bool) (w : Signed) → length x ≡ length z → seen x z negative ≡ w → length w.letters ≡ length x
seen_length x z negative w h e = sym (ap (λ v. length v.letters) e) ∙ length-letters_of x z h

pub seen_letter : (x z : List Bool) (negative : Bool) (w : Signed) (i : ℕ) → length x ≡ length z → seen x z negative ≡ w
    → letter_of (get_or x i false) (get_or z i false) ≡ letter_at w.letters i
seen_letter x z negative w i h e = sym (letter_at-letters_of x z i h) ∙ ap (λ v. letter_at v.letters i) e

pub seen_set : (x z : List Bool) (negative : Bool) (w : Signed) (i : ℕ) (a : Letter) → seen x z negative ≡ w
    → seen (set x i (x_bit a)) (set z i (z_bit a)) negative ≡ record w { letters = set w.letters i a }
seen_set x z negative w i a e =
    ap (λ p. signed p negative) (letters_of-set_bits x z i a) ∙ ap (λ v. signed (set v.letters i a) v.negative) e

-- two words of one length, and the rows of which they are seen
pub record AreSeen (xa za : List Bool) (a : Bool) (p : Signed) (xb zb : List Bool) (b : Bool) (q : Signed) : Type 0 where
  pub first_rows : length xa ≡ length za
  pub second_rows : length xb ≡ length zb
  pub first : seen xa za a ≡ p
  pub second : seen xb zb b ≡ q
  pub lengths : length p.letters ≡ length q.letters

pub rows_length : (xa za : List Bool) (a : Bool) (p : Signed) (xb zb : List Bool) (b : Bool) (q : Signed) → AreSeen xa za a p xb zb b q → length xb ≡ length xa
rows_length xa za a p xb zb b q s =
    sym (seen_length xb zb b q s.second_rows s.second) ∙ (sym s.lengths ∙ seen_length xa za a p s.first_rows s.first)

-- ---- the program's tests of two truth values, as exclusive or
beq_not : (a b : Bool) → beq a b ≡ not (exclusive_or a b)
beq_not false false = refl
beq_not false true = refl
beq_not true false = refl
beq_not true true = refl

unequal : (a b : Bool) → not (beq a b) ≡ exclusive_or a b
unequal false false = refl
unequal false true = refl
unequal true false = refl
unequal true true = refl

-- ---- what the calls answer
pub commuting_rows : (xa za : List Bool) (a : Bool) (p : Signed) (xb zb : List Bool) (b : Bool) (q : Signed) → AreSeen xa za a p xb zb b q
    → beq (and_parity_of xa zb) (and_parity_of za xb) ≡ not (anticommute p.letters q.letters)
commuting_rows xa za a p xb zb b q s =
    let k = rows_length xa za a p xb zb b q s in
    beq_not _ _
    ∙ ap not (sym (anticommute-letters_of xa za xb zb (sym s.first_rows) k (sym s.second_rows ∙ k))
    ∙ ap₂ (λ v w. anticommute v.letters w.letters) s.first s.second)

pub minus_of_seen : (xa za : List Bool) (a : Bool) (p : Signed) (xb zb : List Bool) (b : Bool) (q : Signed) → AreSeen xa za a p xb zb b q
    → leb 2 (phase_of xa za xb zb) ≡ is_minus (letters_power p.letters q.letters)
minus_of_seen xa za a p xb zb b q s =
    minus_of_rows xa za xb zb ∙ ap₂ (λ v w. is_minus (letters_power v.letters w.letters)) s.first s.second

pub product_of_seen : (xa za : List Bool) (a : Bool) (p : Signed) (xb zb : List Bool) (b : Bool) (q : Signed) (minus : Bool) → AreSeen xa za a p xb zb b q
    → minus ≡ is_minus (letters_power p.letters q.letters)
    → seen (xor_rows xa xb) (xor_rows za zb) (not (beq (not (beq a b)) minus)) ≡ product p q
product_of_seen xa za a p xb zb b q minus s m =
    ap₂ signed
    (letters_of-xor_rows xa za xb zb ∙ ap₂ (λ v w. letters_product v.letters w.letters) s.first s.second)
    (unequal _ _ ∙ ap₂ exclusive_or (unequal a b ∙ ap₂ (λ v w. exclusive_or v.negative w.negative) s.first s.second) m)
