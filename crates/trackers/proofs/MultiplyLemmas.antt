-- Gates that only multiply the letters at each of two qubits by an image of those at the other.
use Rattle.std.proofs.Common.{◌≡◌, ℕ, ◌<◌, Bool, true, false, List, [], ◌∷◌, map, length, get_or, set, refl, ap, ap₂, sym, ◌∙◌, arith}
use Rattle.std.specs.Prelude.{All}
use Rattle.std.proofs.Math.Nat.{suc_inj}
use Rattle.std.proofs.lemmas.List.{length-map, get_or-map}
use Rattle.bit_rows.specs.Rows.{xor_rows}
use Rattle.gate_table.specs.declared.gate.Gate.{Gate}
use Rattle.gate_table.specs.Images.{image2, inverse_of}
use Rattle.pauli_word.specs.declared.letter.Letter.{Letter}
use Rattle.pauli_word.specs.declared.letter.Letter.TheVariants.{I, X, Y, Z}
use Rattle.pauli_word.specs.Bits.{letter_of, letters_of}
use Rattle.pauli_word.specs.Letters.{letter_product}
use Rattle.pauli_word.specs.Parity.{exclusive_or}
use Rattle.pauli_word.specs.Words.{letters_product, letter_at}
use Rattle.pauli_word.proofs.LetterLaws.{letter_product-I, letter_product_comm}
use Rattle.pauli_word.proofs.LetterTests.{each_four_letters, at_four_letters, same_letter, same_letter-true}
use Rattle.pauli_word.proofs.WordPlaces.{letter_at-product}
use Rattle.trackers.specs.Tracked.{Tracked, each_word, undone_two}
use Rattle.trackers.specs.declared.images.PairImages.{PairImages}
use Rattle.trackers.specs.private.PairImages.{AreBefore}
use Rattle.trackers.specs.private.Transposed.{ArePlaces, combined, multiplied_at, multiplied_columns, tracked_of}
use Rattle.trackers.proofs.TransposedLemmas.{image2_combined, tracked_set_two}

-- ---- letters

pub kept-letter : (a : Letter) → combined X Z a ≡ a
kept-letter I = refl
kept-letter X = refl
kept-letter Y = refl
kept-letter Z = refl

pub kept-letters : (w : List Letter) → map (combined X Z) w ≡ w
kept-letters [] = refl
kept-letters (a ∷ w) = ap₂ (λ (b : Letter) (v : List Letter). b ∷ v) (kept-letter a) (kept-letters w)

product_test : Letter → Letter → Letter → Letter → Bool
product_test p q u v = same_letter (combined p q (letter_product u v)) (letter_product (combined p q u) (combined p q v))

product_tests : each_four_letters product_test ≡ true
unfolding product_test
product_tests = refl

combined-product : (p q u v : Letter) → combined p q (letter_product u v) ≡ letter_product (combined p q u) (combined p q v)
unfolding product_test
combined-product p q u v = same_letter-true _ _ (at_four_letters product_test product_tests p q u v)

lost-letter : (p q r s a : Letter) → combined p q r ≡ I → combined p q s ≡ I → combined p q (combined r s a) ≡ I
lost-letter p q r s I h k = refl
lost-letter p q r s X h k = h
lost-letter p q r s Y h k = combined-product p q r s ∙ ap₂ letter_product h k
lost-letter p q r s Z h k = k

lost-product : (p q r s a b : Letter) → combined p q r ≡ I → combined p q s ≡ I → combined p q (letter_product a (combined r s b)) ≡ combined p q a
lost-product p q r s a b h k =
    combined-product p q a (combined r s b)
    ∙ (ap (letter_product (combined p q a)) (lost-letter p q r s b h k) ∙ letter_product-I (combined p q a))

-- the image of letters that were multiplied by what is lost
pub lost-letters : (p q r s : Letter) (u v : List Letter) → length u ≡ length v → combined p q r ≡ I → combined p q s ≡ I → map (combined p q) (letters_product u (map (combined r s) v)) ≡ map (combined p q) u
lost-letters p q r s [] v e h k = refl
lost-letters p q r s (a ∷ u) [] e h k = cc
lost-letters p q r s (a ∷ u) (b ∷ v) e h k =
    ap₂ (λ (c : Letter) (w : List Letter). c ∷ w) (lost-product p q r s a b h k) (lost-letters p q r s u v (suc_inj e) h k)

-- X and Z exchanged
exchanged_letter : (a b : Bool) → letter_of b a ≡ combined Z X (letter_of a b)
exchanged_letter false false = refl
exchanged_letter false true = refl
exchanged_letter true false = refl
exchanged_letter true true = refl

pub exchanged_rows : (x z : List Bool) → length x ≡ length z → letters_of z x ≡ map (combined Z X) (letters_of x z)
exchanged_rows [] [] h = refl
exchanged_rows [] (b ∷ z) h = cc
exchanged_rows (a ∷ x) [] h = cc
exchanged_rows (a ∷ x) (b ∷ z) h =
    ap₂ (λ (c : Letter) (w : List Letter). c ∷ w) (exchanged_letter a b) (exchanged_rows x z (suc_inj h))

-- Z multiplied into each letter that has an X in it, and X into each that has a Z
z_added_letter : (a b : Bool) → letter_of a (exclusive_or b a) ≡ combined Y Z (letter_of a b)
z_added_letter false false = refl
z_added_letter false true = refl
z_added_letter true false = refl
z_added_letter true true = refl

pub z_added_rows : (x z : List Bool) → length x ≡ length z → letters_of x (xor_rows z x) ≡ map (combined Y Z) (letters_of x z)
z_added_rows [] [] h = refl
z_added_rows [] (b ∷ z) h = cc
z_added_rows (a ∷ x) [] h = cc
z_added_rows (a ∷ x) (b ∷ z) h =
    ap₂ (λ (c : Letter) (w : List Letter). c ∷ w) (z_added_letter a b) (z_added_rows x z (suc_inj h))

x_added_letter : (a b : Bool) → letter_of (exclusive_or a b) b ≡ combined X Y (letter_of a b)
x_added_letter false false = refl
x_added_letter false true = refl
x_added_letter true false = refl
x_added_letter true true = refl

pub x_added_rows : (x z : List Bool) → length x ≡ length z → letters_of (xor_rows x z) z ≡ map (combined X Y) (letters_of x z)
x_added_rows [] [] h = refl
x_added_rows [] (b ∷ z) h = cc
x_added_rows (a ∷ x) [] h = cc
x_added_rows (a ∷ x) (b ∷ z) h =
    ap₂ (λ (c : Letter) (w : List Letter). c ∷ w) (x_added_letter a b) (x_added_rows x z (suc_inj h))

-- ---- words

product_at : (r s : Letter) (u v : List Letter) (m t : ℕ) → length u ≡ m → length v ≡ m → t < m → letter_at (letters_product u (map (combined r s) v)) t ≡ letter_product (letter_at u t) (combined r s (letter_at v t))
product_at r s u v m t lu lv lt =
    letter_at-product u (map (combined r s) v) t (lu ∙ sym (length-map v (combined r s) ∙ lv))
    ∙ ap (letter_product (letter_at u t)) (get_or-map (combined r s) v t I I (omega (arith, lt, lv)))

pub tracked_multiplied : (m : ℕ) (columns : List (List Letter)) (a b : ℕ) (to_first to_second : Letter × Letter) → ArePlaces (length columns) a b → All (λ column. length column ≡ m) columns
    → tracked_of m (multiplied_columns a b to_first to_second columns) ≡ each_word (multiplied_at a b to_first to_second) (tracked_of m columns)
tracked_multiplied m columns a b to_first to_second places long =
    let u = get_or columns a [] in
    let v = get_or columns b [] in
    let la = long a [] places.first in
    let lb = long b [] places.second in
    tracked_set_two m columns a b (letters_product u (map (combined to_first.0 to_first.1) v)) (letters_product v (map (combined to_second.0 to_second.1) u))
    (λ x y. letter_product x (combined to_first.0 to_first.1 y))
    (λ x y. letter_product y (combined to_second.0 to_second.1 x))
    places.first places.second
    (λ t lt. product_at to_first.0 to_first.1 u v m t la lb lt)
    (λ t lt. product_at to_second.0 to_second.1 v u m t lb la lt)

-- ---- gates

first_image : (g : Gate) (a b : Letter) → (image2 g X I).0 ≡ X → (image2 g Z I).0 ≡ Z → (image2 g a b).0 ≡ letter_product a (combined (image2 g I X).0 (image2 g I Z).0 b)
first_image g a b x z =
    (image2_combined g a b).0
    ∙ ap (λ c. letter_product c (combined (image2 g I X).0 (image2 g I Z).0 b)) (ap₂ (λ p q. combined p q a) x z ∙ kept-letter a)

second_image : (g : Gate) (a b : Letter) → (image2 g I X).1 ≡ X → (image2 g I Z).1 ≡ Z → (image2 g a b).1 ≡ letter_product b (combined (image2 g X I).1 (image2 g Z I).1 a)
second_image g a b x z =
    (image2_combined g a b).1
    ∙ (ap (letter_product (combined (image2 g X I).1 (image2 g Z I).1 a)) (ap₂ (λ p q. combined p q b) x z ∙ kept-letter b)
    ∙ letter_product_comm (combined (image2 g X I).1 (image2 g Z I).1 a) b)

-- a gate that keeps X and Z at either qubit but for letters at the other
pub undone-multiplied : (g : Gate) (a b : ℕ) (images : PairImages) (w : List Letter) → AreBefore g images → (images.first_own.0 ≡ X) × (images.first_own.1 ≡ Z) → (images.second_own.0 ≡ X) × (images.second_own.1 ≡ Z)
    → multiplied_at a b images.first_other images.second_other w ≡ undone_two g a b w
undone-multiplied g a b images w are first second =
    let u = letter_at w a in
    let v = letter_at w b in
    ap₂ (λ (p q : Letter × Letter). multiplied_at a b p q w) are.first_other are.second_other
    ∙ ap₂ (λ c d. set (set w a c) b d)
    (sym (first_image (inverse_of g) u v (sym (ap (λ p. p.0) are.first_own) ∙ first.0) (sym (ap (λ p. p.1) are.first_own) ∙ first.1)))
    (sym (second_image (inverse_of g) u v (sym (ap (λ p. p.0) are.second_own) ∙ second.0) (sym (ap (λ p. p.1) are.second_own) ∙ second.1)))

pub each_word-same : (f g : List Letter → List Letter) (t : Tracked) → ((w : List Letter) → f w ≡ g w) → each_word f t ≡ each_word g t
each_word-same f g t same = ap (λ words. record { qubits = t.qubits; words = words }) (map_same t.words)
  where
    map_same : (ws : List (List Letter)) → map f ws ≡ map g ws
    map_same [] = refl
    map_same (w ∷ ws) = ap₂ (λ (v : List Letter) (vs : List (List Letter)). v ∷ vs) (same w) (map_same ws)
