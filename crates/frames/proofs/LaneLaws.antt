-- The letter of one run at a qubit, from its bits.
use Rattle.std.proofs.Common.{◌≡◌, ℕ, Bool, true, false, ◌&&◌, refl, sym, ap, ap₂, ◌∙◌}
use Rattle.gate_table.specs.declared.gate.Gate.{Gate}
use Rattle.gate_table.specs.Images.{image1, image2}
use Rattle.gate_table.proofs.Products.{image1-product, image2-product}
use Rattle.gate_table.proofs.Identity.{image1-I, image2-I}
use Rattle.bit_rows.specs.Lanes.{lane_bit}
use Rattle.bit_rows.proofs.LaneLaws.{lane_bit-zero}
use Rattle.pauli_word.specs.declared.letter.Letter.{Letter}
use Rattle.pauli_word.specs.declared.letter.Letter.TheVariants.{I, X, Y, Z}
use Rattle.pauli_word.specs.Bits.{letter_of, x_bit, z_bit}
use Rattle.pauli_word.specs.Letters.{letter_product, letters_clash}
use Rattle.pauli_word.specs.Parity.{exclusive_or}
use Rattle.pauli_word.proofs.LetterLaws.{letter_product_assoc, letter_product_comm, letter_product-I}
use Rattle.pauli_word.proofs.Parities.{exclusive_or-false}
use Rattle.frames.specs.declared.letters.LaneLetters.{LaneLetters}
use Rattle.frames.specs.LaneLetters.{letter_in, times_where}

abbrev pub letters : ℕ → ℕ → LaneLetters
letters x z = record { x = x; z = z }

pub letter_in-bits : (j : ℕ) (l : LaneLetters) → letter_in j l ≡ letter_of (lane_bit j l.x) (lane_bit j l.z)
unfolding letter_in
letter_in-bits j l = refl

pub letter_in-none : (j : ℕ) → letter_in j (letters 0 0) ≡ I
letter_in-none j = letter_in-bits j (letters 0 0) ∙ ap₂ letter_of (lane_bit-zero j) (lane_bit-zero j)

-- a letter of given bits clashes with X where it has Z, and so on
clash_of-X : (x z : Bool) → letters_clash (letter_of x z) X ≡ z
clash_of-X false false = refl
clash_of-X false true = refl
clash_of-X true false = refl
clash_of-X true true = refl

clash_of-Y : (x z : Bool) → letters_clash (letter_of x z) Y ≡ exclusive_or x z
clash_of-Y false false = refl
clash_of-Y false true = refl
clash_of-Y true false = refl
clash_of-Y true true = refl

clash_of-Z : (x z : Bool) → letters_clash (letter_of x z) Z ≡ x
clash_of-Z false false = refl
clash_of-Z false true = refl
clash_of-Z true false = refl
clash_of-Z true true = refl

clash_of-I : (x z : Bool) → letters_clash (letter_of x z) I ≡ false
clash_of-I false false = refl
clash_of-I false true = refl
clash_of-I true false = refl
clash_of-I true true = refl

pub clash-I : (j : ℕ) (l : LaneLetters) → lane_bit j 0 ≡ letters_clash (letter_in j l) I
clash-I j l = lane_bit-zero j ∙ sym (ap (λ a. letters_clash a I) (letter_in-bits j l) ∙ clash_of-I (lane_bit j l.x) (lane_bit j l.z))

pub clash-X : (j : ℕ) (l : LaneLetters) → lane_bit j l.z ≡ letters_clash (letter_in j l) X
clash-X j l = sym (ap (λ a. letters_clash a X) (letter_in-bits j l) ∙ clash_of-X (lane_bit j l.x) (lane_bit j l.z))

pub clash-Y : (j : ℕ) (l : LaneLetters) (word : ℕ) → lane_bit j word ≡ exclusive_or (lane_bit j l.x) (lane_bit j l.z) → lane_bit j word ≡ letters_clash (letter_in j l) Y
clash-Y j l word is = is ∙ sym (ap (λ a. letters_clash a Y) (letter_in-bits j l) ∙ clash_of-Y (lane_bit j l.x) (lane_bit j l.z))

pub clash-Z : (j : ℕ) (l : LaneLetters) → lane_bit j l.x ≡ letters_clash (letter_in j l) Z
clash-Z j l = sym (ap (λ a. letters_clash a Z) (letter_in-bits j l) ∙ clash_of-Z (lane_bit j l.x) (lane_bit j l.z))

times_of-X : (x z b : Bool) → letter_of (exclusive_or x b) z ≡ times_where b X (letter_of x z)
times_of-X false false false = refl
times_of-X false false true = refl
times_of-X false true false = refl
times_of-X false true true = refl
times_of-X true false false = refl
times_of-X true false true = refl
times_of-X true true false = refl
times_of-X true true true = refl

times_of-Z : (x z b : Bool) → letter_of x (exclusive_or z b) ≡ times_where b Z (letter_of x z)
times_of-Z false false false = refl
times_of-Z false false true = refl
times_of-Z false true false = refl
times_of-Z false true true = refl
times_of-Z true false false = refl
times_of-Z true false true = refl
times_of-Z true true false = refl
times_of-Z true true true = refl

times_of-Y : (x z b : Bool) → letter_of (exclusive_or x b) (exclusive_or z b) ≡ times_where b Y (letter_of x z)
times_of-Y false false false = refl
times_of-Y false false true = refl
times_of-Y false true false = refl
times_of-Y false true true = refl
times_of-Y true false false = refl
times_of-Y true false true = refl
times_of-Y true true false = refl
times_of-Y true true true = refl

times_of : (a : Letter) (x z b : Bool) → letter_of (exclusive_or x (x_bit a && b)) (exclusive_or z (z_bit a && b)) ≡ times_where b a (letter_of x z)
times_of I x z b = ap₂ letter_of (exclusive_or-false x) (exclusive_or-false z) ∙ kept b (letter_of x z)
  where
    kept : (b : Bool) (a : Letter) → a ≡ times_where b I a
    kept true a = refl
    kept false a = refl
times_of X x z b = ap (letter_of (exclusive_or x b)) (exclusive_or-false z) ∙ times_of-X x z b
times_of Y x z b = times_of-Y x z b
times_of Z x z b = ap (λ c. letter_of c (exclusive_or z b)) (exclusive_or-false x) ∙ times_of-Z x z b

pub times-lanes : (j : ℕ) (l : LaneLetters) (a : Letter) (runs x z : ℕ) → lane_bit j x ≡ exclusive_or (lane_bit j l.x) (x_bit a && lane_bit j runs)
    → lane_bit j z ≡ exclusive_or (lane_bit j l.z) (z_bit a && lane_bit j runs) → letter_in j (letters x z) ≡ times_where (lane_bit j runs) a (letter_in j l)
times-lanes j l a runs x z is is' =
    letter_in-bits j (letters x z)
    ∙ ap₂ letter_of is is'
    ∙ times_of a (lane_bit j l.x) (lane_bit j l.z) (lane_bit j runs)
    ∙ ap (times_where (lane_bit j runs) a) (sym (letter_in-bits j l))

-- what keeps products and I is known from its values at X and Z
pub from_images : (f : Letter → Letter) → f I ≡ I → f Y ≡ letter_product (f X) (f Z) → (x z : Bool) (c : Letter) → times_where z (f Z) (times_where x (f X) c) ≡ letter_product (f (letter_of x z)) c
from_images f at_I at_Y false false c = sym (ap (λ a. letter_product a c) at_I)
from_images f at_I at_Y true false c = refl
from_images f at_I at_Y false true c = refl
from_images f at_I at_Y true true c =
    sym (letter_product_assoc (f Z) (f X) c) ∙ ap (λ a. letter_product a c) (letter_product_comm (f Z) (f X) ∙ sym at_Y)

-- so is the image of a letter
pub image-lanes : (gate : Gate) (j : ℕ) (l : LaneLetters) → times_where (lane_bit j l.z) (image1 gate Z).0 (times_where (lane_bit j l.x) (image1 gate X).0 I) ≡ (image1 gate (letter_in j l)).0
image-lanes gate j l =
    from_images (λ a. (image1 gate a).0) (ap (λ (p : Letter × Bool). p.0) (image1-I gate)) (image1-product gate X Z).letter (lane_bit j l.x) (lane_bit j l.z) I
    ∙ letter_product-I _
    ∙ ap (λ a. (image1 gate a).0) (sym (letter_in-bits j l))

-- and the letters of the image of a pair
abbrev first_of : Letter × Letter × Bool → Letter
first_of p = p.0

abbrev second_of : Letter × Letter × Bool → Letter
second_of p = p.1

-- what the letters of one qubit and those of the other make, each beside I, is multiplied
pair-lanes : (f : Letter → Letter → Letter) → f I I ≡ I → f Y I ≡ letter_product (f X I) (f Z I) → f I Y ≡ letter_product (f I X) (f I Z)
    → ((a b : Letter) → f (letter_product a I) b ≡ letter_product (f a I) (f I b))
    → (j : ℕ) (l r : LaneLetters)
    → times_where (lane_bit j r.z) (f I Z) (times_where (lane_bit j r.x) (f I X) (times_where (lane_bit j l.z) (f Z I) (times_where (lane_bit j l.x) (f X I) I))) ≡ f (letter_in j l) (letter_in j r)
pair-lanes f at_I at_Y at_Y' splits j l r =
    let a = letter_of (lane_bit j l.x) (lane_bit j l.z) in
    let b = letter_of (lane_bit j r.x) (lane_bit j r.z) in
    from_images (λ b. f I b) at_I at_Y' (lane_bit j r.x) (lane_bit j r.z) _
    ∙ ap (letter_product (f I b)) (from_images (λ a. f a I) at_I at_Y (lane_bit j l.x) (lane_bit j l.z) I ∙ letter_product-I (f a I))
    ∙ letter_product_comm (f I b) (f a I)
    ∙ sym (splits a b)
    ∙ ap (λ c. f c b) (letter_product-I a)
    ∙ ap₂ f (sym (letter_in-bits j l)) (sym (letter_in-bits j r))

pub first-lanes : (gate : Gate) (j : ℕ) (l r : LaneLetters)
    → times_where (lane_bit j r.z) (image2 gate I Z).0 (times_where (lane_bit j r.x) (image2 gate I X).0 (times_where (lane_bit j l.z) (image2 gate Z I).0 (times_where (lane_bit j l.x) (image2 gate X I).0 I)))
    ≡ (image2 gate (letter_in j l) (letter_in j r)).0
first-lanes gate j l r =
    pair-lanes (λ a b. (image2 gate a b).0) (ap first_of (image2-I gate)) (image2-product gate X I Z I).first (image2-product gate I X I Z).first (λ a b. (image2-product gate a I I b).first) j l r

pub second-lanes : (gate : Gate) (j : ℕ) (l r : LaneLetters)
    → times_where (lane_bit j r.z) (image2 gate I Z).1 (times_where (lane_bit j r.x) (image2 gate I X).1 (times_where (lane_bit j l.z) (image2 gate Z I).1 (times_where (lane_bit j l.x) (image2 gate X I).1 I)))
    ≡ (image2 gate (letter_in j l) (letter_in j r)).1
second-lanes gate j l r =
    pair-lanes (λ a b. (image2 gate a b).1) (ap second_of (image2-I gate)) (image2-product gate X I Z I).second (image2-product gate I X I Z).second (λ a b. (image2-product gate a I I b).second) j l r
