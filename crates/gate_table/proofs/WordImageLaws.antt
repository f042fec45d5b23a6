-- The image of a word under a gate: it keeps length, products and what anticommutes, leaves the identity as it is,
-- and is undone by the image under the inverse gate. Carried to words from the laws of the gate table.
use Rattle.std.proofs.Common.{◌≡◌, ◌<◌, ℕ, zero, suc, Bool, true, false, List, length, set, refl, ap, ap₂, sym, ◌∙◌, arith, length-set, get_or-set_same, set-set}
use Rattle.std.proofs.lemmas.List.{set-get_or}
use Rattle.gate_table.specs.declared.gate.Gate.{Gate}
use Rattle.gate_table.specs.Images.{image1, inverse_of}
use Rattle.gate_table.specs.Laws.{Undoes}
use Rattle.gate_table.proofs.Products.{image1-product}
use Rattle.gate_table.proofs.Clashes.{image1-clash}
use Rattle.gate_table.proofs.Identity.{image1-I}
use Rattle.gate_table.proofs.Inverses.{undone_by_inverse}
use Rattle.pauli_word.specs.declared.letter.Letter.{Letter}
use Rattle.pauli_word.specs.declared.letter.Letter.TheVariants.{I}
use Rattle.pauli_word.specs.Letters.{Power, one, i, minus_one, minus_i, power_product, is_minus, sign_power, letter_product, letter_power, letters_clash}
use Rattle.pauli_word.specs.Parity.{exclusive_or}
use Rattle.pauli_word.specs.Words.{Signed, letters_product, letters_power, anticommute, product, no_letters, letter_at}
use Rattle.pauli_word.proofs.Parities.{exclusive_or_assoc, exclusive_or_comm, exclusive_or_middle, exclusive_or-false}
use Rattle.pauli_word.proofs.PowerLaws.{power_product_assoc, power_product_comm}
use Rattle.pauli_word.proofs.WordPlaces.{letters_power_at, anticommute_at, letters_product-set, letter_at-product}
use Rattle.gate_table.specs.WordImages.{image_at, preimage_at}
use Rattle.pauli_word.specs.Words.{signed}

-- the sign that a real factor brings
pub is_minus-sign_power : (s : Bool) (p : Power) → is_minus (power_product (sign_power s) p) ≡ exclusive_or s (is_minus p)
is_minus-sign_power false p = refl
is_minus-sign_power true one = refl
is_minus-sign_power true i = refl
is_minus-sign_power true minus_one = refl
is_minus-sign_power true minus_i = refl

-- where u and v differ by signs, so do their products with another power
pub minus_moved : (u v rest : Power) (s t : Bool) → power_product u (sign_power s) ≡ power_product (sign_power t) v → exclusive_or (is_minus (power_product u rest)) s ≡ exclusive_or t (is_minus (power_product v rest))
minus_moved u v rest s t h =
    exclusive_or_comm (is_minus (power_product u rest)) s
    ∙ sym (is_minus-sign_power s (power_product u rest))
    ∙ ap is_minus
    (sym (power_product_assoc (sign_power s) u rest)
    ∙ ap (λ w. power_product w rest) (power_product_comm (sign_power s) u ∙ h)
    ∙ power_product_assoc (sign_power t) v rest)
    ∙ is_minus-sign_power t (power_product v rest)

pub signs_regrouped : (p r m s t u n : Bool) → exclusive_or m s ≡ exclusive_or (exclusive_or t u) n → exclusive_or (exclusive_or (exclusive_or p r) m) s ≡ exclusive_or (exclusive_or (exclusive_or p t) (exclusive_or r u)) n
signs_regrouped p r m s t u n h =
    exclusive_or_assoc (exclusive_or p r) m s
    ∙ ap (exclusive_or (exclusive_or p r)) h
    ∙ sym (exclusive_or_assoc (exclusive_or p r) (exclusive_or t u) n)
    ∙ ap (λ x. exclusive_or x n) (exclusive_or_middle p r t u)

-- a word of I alone has I at each qubit
pub letter_at-none : (n q : ℕ) → letter_at (no_letters n) q ≡ I
letter_at-none zero q = refl
letter_at-none (suc n) zero = refl
letter_at-none (suc n) (suc q) = letter_at-none n q

pub none_set : (n q : ℕ) (a : Letter) → a ≡ I → set (no_letters n) q a ≡ no_letters n
none_set n q a h = ap (set (no_letters n) q) (h ∙ sym (letter_at-none n q)) ∙ set-get_or (no_letters n) q I

-- one qubit

pub length-image_at : (g : Gate) (q : ℕ) (p : Signed) → length (image_at g q p).letters ≡ length p.letters
length-image_at g q p = length-set p.letters q (image1 g (letter_at p.letters q)).0

pub image_at-none : (g : Gate) (q n : ℕ) (b : Bool) → image_at g q (signed (no_letters n) b) ≡ signed (no_letters n) b
image_at-none g q n b =
    let at_q = ap (image1 g) (letter_at-none n q) ∙ image1-I g in
    ap₂ signed (none_set n q _ (ap (λ x. x.0) at_q)) (ap (λ x. exclusive_or b x.1) at_q ∙ exclusive_or-false b)

image_power : (g : Gate) (q : ℕ) (p r : List Letter) (x y : Letter) → q < length p → q < length r → letters_power (set p q x) (set r q y) ≡ power_product (letter_power x y) (letters_power (set p q I) (set r q I))
image_power g q p r x y h k =
    letters_power_at (set p q x) (set r q y) q
    ∙ ap₂ power_product
    (ap₂ letter_power (get_or-set_same p q x I h) (get_or-set_same r q y I k))
    (ap₂ letters_power (set-set p q x I) (set-set r q y I))

pub image_at-product : (g : Gate) (q : ℕ) (p r : Signed) → length p.letters ≡ length r.letters → q < length p.letters → image_at g q (product p r) ≡ product (image_at g q p) (image_at g q r)
image_at-product g q p r h k =
    let a = letter_at p.letters q in
    let b = letter_at r.letters q in
    let k' : q < length r.letters = omega arith in
    let kept = image1-product g a b in
    let at_q = ap (image1 g) (letter_at-product p.letters r.letters q h) in
    ap₂ signed
    (ap (set (letters_product p.letters r.letters) q) (ap (λ x. x.0) at_q ∙ kept.letter)
    ∙ sym (letters_product-set p.letters r.letters q (image1 g a).0 (image1 g b).0))
    (ap (λ x. exclusive_or (exclusive_or (exclusive_or p.negative r.negative) (is_minus (letters_power p.letters r.letters))) x.1) at_q
    ∙ signs_regrouped p.negative r.negative (is_minus (letters_power p.letters r.letters)) (image1 g (letter_product a b)).1 (image1 g a).1 (image1 g b).1
    (is_minus (letters_power (set p.letters q (image1 g a).0) (set r.letters q (image1 g b).0)))
    (ap (λ x. exclusive_or (is_minus x) (image1 g (letter_product a b)).1) (letters_power_at p.letters r.letters q)
    ∙ minus_moved (letter_power a b) (letter_power (image1 g a).0 (image1 g b).0) (letters_power (set p.letters q I) (set r.letters q I))
    (image1 g (letter_product a b)).1 (exclusive_or (image1 g a).1 (image1 g b).1) kept.power
    ∙ ap (λ x. exclusive_or (exclusive_or (image1 g a).1 (image1 g b).1) (is_minus x)) (sym (image_power g q p.letters r.letters (image1 g a).0 (image1 g b).0 k k'))))

pub image_at-anticommute : (g : Gate) (q : ℕ) (p r : Signed) → q < length p.letters → q < length r.letters → anticommute (image_at g q p).letters (image_at g q r).letters ≡ anticommute p.letters r.letters
image_at-anticommute g q p r h k =
    let a = letter_at p.letters q in
    let b = letter_at r.letters q in
    let x = (image1 g a).0 in
    let y = (image1 g b).0 in
    anticommute_at (set p.letters q x) (set r.letters q y) q
    ∙ ap₂ exclusive_or
    (ap₂ letters_clash (get_or-set_same p.letters q x I h) (get_or-set_same r.letters q y I k) ∙ image1-clash g a b)
    (ap₂ anticommute (set-set p.letters q x I) (set-set r.letters q y I))
    ∙ sym (anticommute_at p.letters r.letters q)

undone_at : (g h : Gate) → ((a : Letter) → Undoes g h a) → (q : ℕ) (p : Signed) → q < length p.letters → image_at g q (image_at h q p) ≡ p
undone_at g h undo q p k =
    let a = letter_at p.letters q in
    let x = image1 h a in
    let at_q = ap (image1 g) (get_or-set_same p.letters q x.0 I k) in
    ap₂ signed
    (set-set p.letters q x.0 _ ∙ (ap (λ y. set p.letters q y.0) at_q ∙ (ap (set p.letters q) (undo a).letter ∙ set-get_or p.letters q I)))
    (ap (λ y. exclusive_or (exclusive_or p.negative x.1) y.1) at_q
    ∙ (exclusive_or_assoc p.negative x.1 (image1 g x.0).1
    ∙ (ap (exclusive_or p.negative) (exclusive_or_comm x.1 (image1 g x.0).1 ∙ (undo a).sign) ∙ exclusive_or-false p.negative)))

pub image_at-preimage_at : (g : Gate) (q : ℕ) (p : Signed) → q < length p.letters → image_at g q (preimage_at g q p) ≡ p
image_at-preimage_at g q p k = undone_at g (inverse_of g) (undone_by_inverse g).before q p k

pub preimage_at-image_at : (g : Gate) (q : ℕ) (p : Signed) → q < length p.letters → preimage_at g q (image_at g q p) ≡ p
preimage_at-image_at g q p k = undone_at (inverse_of g) g (undone_by_inverse g).after q p k
