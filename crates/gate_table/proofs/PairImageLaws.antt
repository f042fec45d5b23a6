-- The image of a word under a two-qubit gate: the same laws as under a one-qubit gate, at two qubits that differ.
use Rattle.std.proofs.Common.{◌≡◌, ◌≢◌, ◌<◌, ℕ, Bool, List, length, set, refl, ap, ap₂, sym, subst, ◌∙◌, arith, length-set, get_or-set_same, get_or-set_other, set-set}
use Rattle.std.proofs.lemmas.List.{set_comm, set-get_or}
use Rattle.gate_table.specs.declared.gate.Gate.{Gate}
use Rattle.gate_table.specs.Images.{image2, inverse_of, pair_power}
use Rattle.gate_table.specs.Laws.{UndoesPair}
use Rattle.gate_table.proofs.Products.{image2-product}
use Rattle.gate_table.proofs.Clashes.{image2-clash}
use Rattle.gate_table.proofs.Identity.{image2-I}
use Rattle.gate_table.proofs.Inverses.{undone_by_inverse}
use Rattle.pauli_word.specs.declared.letter.Letter.{Letter}
use Rattle.pauli_word.specs.declared.letter.Letter.TheVariants.{I}
use Rattle.pauli_word.specs.Letters.{power_product, is_minus, letter_product, letter_power, letters_clash}
use Rattle.pauli_word.specs.Parity.{exclusive_or}
use Rattle.pauli_word.specs.Words.{Signed, letters_product, letters_power, anticommute, product, no_letters, letter_at}
use Rattle.pauli_word.proofs.Parities.{exclusive_or_assoc, exclusive_or_comm, exclusive_or-false}
use Rattle.pauli_word.proofs.PowerLaws.{power_product_assoc}
use Rattle.pauli_word.proofs.WordPlaces.{letters_power_at, anticommute_at, letters_product-set, letter_at-product}
use Rattle.gate_table.specs.WordImages.{image_at_two, preimage_at_two}
use Rattle.pauli_word.specs.Words.{signed}
use Rattle.gate_table.proofs.WordImageLaws.{minus_moved, signs_regrouped, letter_at-none, none_set}

-- a word with letters put at two qubits
abbrev pub set_two : List Letter → ℕ → ℕ → Letter → Letter → List Letter
set_two p a b x y = set (set p a x) b y

pub length-set_two : (p : List Letter) (a b : ℕ) (x y : Letter) → length (set_two p a b x y) ≡ length p
length-set_two p a b x y = length-set (set p a x) b y ∙ length-set p a x

first_of_two : (p : List Letter) (a b : ℕ) (x y : Letter) → a ≢ b → a < length p → letter_at (set_two p a b x y) a ≡ x
first_of_two p a b x y ne h = get_or-set_other (set p a x) b a y I ne ∙ get_or-set_same p a x I h

second_of_two : (p : List Letter) (a b : ℕ) (x y : Letter) → b < length p → letter_at (set_two p a b x y) b ≡ y
second_of_two p a b x y h = get_or-set_same (set p a x) b y I (subst (λ n. b < n) (sym (length-set p a x)) h)

-- letters put at two qubits twice
set_two_twice : (p : List Letter) (a b : ℕ) (x y z w : Letter) → a ≢ b → set_two (set_two p a b x y) a b z w ≡ set_two p a b z w
set_two_twice p a b x y z w ne =
    ap (λ q. set q b w) (sym (set_comm (set p a x) a b z y ne) ∙ ap (λ q. set q b y) (set-set p a x z))
    ∙ set-set (set p a z) b y w

-- products, powers of i and clashes at two qubits
power_at_two : (p r : List Letter) (a b : ℕ) → a ≢ b → letters_power p r ≡ power_product (pair_power (letter_at p a) (letter_at p b) (letter_at r a) (letter_at r b)) (letters_power (set_two p a b I I) (set_two r a b I I))
power_at_two p r a b ne =
    letters_power_at p r a
    ∙ ap (power_product (letter_power (letter_at p a) (letter_at r a)))
    (letters_power_at (set p a I) (set r a I) b
    ∙ ap (λ s. power_product s (letters_power (set_two p a b I I) (set_two r a b I I)))
    (ap₂ letter_power (get_or-set_other p a b I I (λ e. ne (sym e))) (get_or-set_other r a b I I (λ e. ne (sym e)))))
    ∙ sym (power_product_assoc (letter_power (letter_at p a) (letter_at r a)) (letter_power (letter_at p b) (letter_at r b)) (letters_power (set_two p a b I I) (set_two r a b I I)))

clash_at_two : (p r : List Letter) (a b : ℕ) → a ≢ b → anticommute p r ≡ exclusive_or (exclusive_or (letters_clash (letter_at p a) (letter_at r a)) (letters_clash (letter_at p b) (letter_at r b))) (anticommute (set_two p a b I I) (set_two r a b I I))
clash_at_two p r a b ne =
    anticommute_at p r a
    ∙ ap (exclusive_or (letters_clash (letter_at p a) (letter_at r a)))
    (anticommute_at (set p a I) (set r a I) b
    ∙ ap (λ s. exclusive_or s (anticommute (set_two p a b I I) (set_two r a b I I)))
    (ap₂ letters_clash (get_or-set_other p a b I I (λ e. ne (sym e))) (get_or-set_other r a b I I (λ e. ne (sym e)))))
    ∙ sym (exclusive_or_assoc (letters_clash (letter_at p a) (letter_at r a)) (letters_clash (letter_at p b) (letter_at r b)) (anticommute (set_two p a b I I) (set_two r a b I I)))

power_of_images : (p r : List Letter) (a b : ℕ) (x y z w : Letter) → a ≢ b → a < length p → b < length p → a < length r → b < length r → letters_power (set_two p a b x y) (set_two r a b z w) ≡ power_product (pair_power x y z w) (letters_power (set_two p a b I I) (set_two r a b I I))
power_of_images p r a b x y z w ne pa pb ra rb =
    power_at_two (set_two p a b x y) (set_two r a b z w) a b ne
    ∙ ap₂ power_product
    (ap₂ power_product
    (ap₂ letter_power (first_of_two p a b x y ne pa) (first_of_two r a b z w ne ra))
    (ap₂ letter_power (second_of_two p a b x y pb) (second_of_two r a b z w rb)))
    (ap₂ letters_power (set_two_twice p a b x y I I ne) (set_two_twice r a b z w I I ne))

product_of_two : (p r : List Letter) (a b : ℕ) (x y z w : Letter) → letters_product (set_two p a b x y) (set_two r a b z w) ≡ set_two (letters_product p r) a b (letter_product x z) (letter_product y w)
product_of_two p r a b x y z w =
    letters_product-set (set p a x) (set r a z) b y w
    ∙ ap (λ q. set q b (letter_product y w)) (letters_product-set p r a x z)

pub length-image_at_two : (g : Gate) (a b : ℕ) (p : Signed) → length (image_at_two g a b p).letters ≡ length p.letters
length-image_at_two g a b p =
    let image = image2 g (letter_at p.letters a) (letter_at p.letters b)
    in length-set_two p.letters a b image.0 image.1

pub image_at_two-none : (g : Gate) (a b n : ℕ) (c : Bool) → image_at_two g a b (signed (no_letters n) c) ≡ signed (no_letters n) c
image_at_two-none g a b n c =
    let here = ap₂ (image2 g) (letter_at-none n a) (letter_at-none n b) ∙ image2-I g in
    ap₂ signed
    (ap₂ (set_two (no_letters n) a b) (ap (λ x. x.0) here) (ap (λ x. x.1) here)
    ∙ (ap (λ p. set p b I) (none_set n a I refl) ∙ none_set n b I refl))
    (ap (λ x. exclusive_or c x.2) here ∙ exclusive_or-false c)

pub image_at_two-product : (g : Gate) (a b : ℕ) (p r : Signed) → length p.letters ≡ length r.letters → a ≢ b → a < length p.letters → b < length p.letters → image_at_two g a b (product p r) ≡ product (image_at_two g a b p) (image_at_two g a b r)
image_at_two-product g a b p r h ne k l =
    let k' : a < length r.letters = omega arith in
    let l' : b < length r.letters = omega arith in
    let pa = letter_at p.letters a in
    let pb = letter_at p.letters b in
    let ra = letter_at r.letters a in
    let rb = letter_at r.letters b in
    let u = image2 g pa pb in
    let v = image2 g ra rb in
    let w = image2 g (letter_product pa ra) (letter_product pb rb) in
    let kept = image2-product g pa pb ra rb in
    let here = ap₂ (image2 g) (letter_at-product p.letters r.letters a h) (letter_at-product p.letters r.letters b h) in
    let both = letters_product p.letters r.letters in
    ap₂ signed
    (ap₂ (set_two both a b) (ap (λ x. x.0) here ∙ kept.first) (ap (λ x. x.1) here ∙ kept.second)
    ∙ sym (product_of_two p.letters r.letters a b u.0 u.1 v.0 v.1))
    (ap (λ x. exclusive_or (exclusive_or (exclusive_or p.negative r.negative) (is_minus (letters_power p.letters r.letters))) x.2) here
    ∙ signs_regrouped p.negative r.negative (is_minus (letters_power p.letters r.letters)) w.2 u.2 v.2
    (is_minus (letters_power (set_two p.letters a b u.0 u.1) (set_two r.letters a b v.0 v.1)))
    (ap (λ x. exclusive_or (is_minus x) w.2) (power_at_two p.letters r.letters a b ne)
    ∙ minus_moved (pair_power pa pb ra rb) (pair_power u.0 u.1 v.0 v.1) (letters_power (set_two p.letters a b I I) (set_two r.letters a b I I))
    w.2 (exclusive_or u.2 v.2) kept.power
    ∙ ap (λ x. exclusive_or (exclusive_or u.2 v.2) (is_minus x)) (sym (power_of_images p.letters r.letters a b u.0 u.1 v.0 v.1 ne k l k' l'))))

pub image_at_two-anticommute : (g : Gate) (a b : ℕ) (p r : Signed) → length p.letters ≡ length r.letters → a ≢ b → a < length p.letters → b < length p.letters → anticommute (image_at_two g a b p).letters (image_at_two g a b r).letters ≡ anticommute p.letters r.letters
image_at_two-anticommute g a b p r h ne k l =
    let k' : a < length r.letters = omega arith in
    let l' : b < length r.letters = omega arith in
    let u = image2 g (letter_at p.letters a) (letter_at p.letters b) in
    let v = image2 g (letter_at r.letters a) (letter_at r.letters b) in
    clash_at_two (set_two p.letters a b u.0 u.1) (set_two r.letters a b v.0 v.1) a b ne
    ∙ ap₂ exclusive_or
    (ap₂ exclusive_or
    (ap₂ letters_clash (first_of_two p.letters a b u.0 u.1 ne k) (first_of_two r.letters a b v.0 v.1 ne k'))
    (ap₂ letters_clash (second_of_two p.letters a b u.0 u.1 l) (second_of_two r.letters a b v.0 v.1 l'))
    ∙ image2-clash g (letter_at p.letters a) (letter_at p.letters b) (letter_at r.letters a) (letter_at r.letters b))
    (ap₂ anticommute (set_two_twice p.letters a b u.0 u.1 I I ne) (set_two_twice r.letters a b v.0 v.1 I I ne))
    ∙ sym (clash_at_two p.letters r.letters a b ne)

same_two : (p : List Letter) (a b : ℕ) → set_two p a b (letter_at p a) (letter_at p b) ≡ p
same_two p a b = ap (λ q. set q b (letter_at p b)) (set-get_or p a I) ∙ set-get_or p b I

undone_at_two : (g h : Gate) → ((x y : Letter) → UndoesPair g h x y) → (a b : ℕ) (p : Signed) → a ≢ b → a < length p.letters → b < length p.letters → image_at_two g a b (image_at_two h a b p) ≡ p
undone_at_two g h undo a b p ne k l =
    let x = letter_at p.letters a in
    let y = letter_at p.letters b in
    let u = image2 h x y in
    let here = ap₂ (image2 g) (first_of_two p.letters a b u.0 u.1 ne k) (second_of_two p.letters a b u.0 u.1 l) in
    ap₂ signed
    (set_two_twice p.letters a b u.0 u.1 _ _ ne
    ∙ (ap₂ (set_two p.letters a b) (ap (λ z. z.0) here ∙ (undo x y).first) (ap (λ z. z.1) here ∙ (undo x y).second) ∙ same_two p.letters a b))
    (ap (λ z. exclusive_or (exclusive_or p.negative u.2) z.2) here
    ∙ (exclusive_or_assoc p.negative u.2 (image2 g u.0 u.1).2
    ∙ (ap (exclusive_or p.negative) (exclusive_or_comm u.2 (image2 g u.0 u.1).2 ∙ (undo x y).sign) ∙ exclusive_or-false p.negative)))

pub image_at_two-preimage_at_two : (g : Gate) (a b : ℕ) (p : Signed) → a ≢ b → a < length p.letters → b < length p.letters → image_at_two g a b (preimage_at_two g a b p) ≡ p
image_at_two-preimage_at_two g a b p = undone_at_two g (inverse_of g) (undone_by_inverse g).pair_before a b p

pub preimage_at_two-image_at_two : (g : Gate) (a b : ℕ) (p : Signed) → a ≢ b → a < length p.letters → b < length p.letters → preimage_at_two g a b (image_at_two g a b p) ≡ p
preimage_at_two-image_at_two g a b p = undone_at_two (inverse_of g) g (undone_by_inverse g).pair_after a b p
