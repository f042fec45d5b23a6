-- A map of words that keeps products is known from the words of X and Z at each qubit, its rows: `encoded` by the rows
-- is the map. So rows that are a map's rows encode as it does, whatever way they were computed.
use Rattle.std.proofs.Common.{◌≡◌, ◌<◌, ℕ, zero, suc, Bool, true, false, List, [], ◌∷◌, length, refl, ap, ap₂, sym, ◌∙◌, arith}
use Rattle.std.proofs.Math.Nat.{suc_inj}
use Rattle.std.proofs.lemmas.List.{length-replicate}
use Rattle.pauli_word.specs.declared.letter.Letter.{Letter}
use Rattle.pauli_word.specs.declared.letter.Letter.TheVariants.{I, X, Y, Z}
use Rattle.pauli_word.specs.Letters.{power_product, is_minus, letter_power}
use Rattle.pauli_word.specs.Parity.{exclusive_or}
use Rattle.pauli_word.specs.Words.{Signed, letters_product, anticommute, product, no_letters, lone_letter, signed, with_sign_changed}
use Rattle.pauli_word.specs.Groups.{identity_word}
use Rattle.pauli_word.proofs.Parities.{exclusive_or-false}
use Rattle.pauli_word.proofs.LetterLaws.{letter_product-I, letter_power-I}
use Rattle.pauli_word.proofs.WordLaws.{letters_power_of_none}
use Rattle.pauli_word.proofs.SignedLaws.{product_of_identity}
use Rattle.pauli_word.proofs.LoneLetters.{length-lone_letter, letters_product_of_no_letters}
use Rattle.pauli_word.specs.WordMaps.{KeepsWords}
use Rattle.tableau.specs.private.CliffordMaps.{IsClifford}
use Rattle.tableau.specs.private.Encoding.{Pair, word_of, letters_encoded, encoded, pair_at, IsTableau}
use Rattle.tableau.proofs.Turns.{product_size, times_identity}

-- rows that are those of a map of words of m letters
pub record AreRows (m n : ℕ) (f : Signed → Signed) (rows : List Pair) : Type 0 where
  pub x : (q : ℕ) → q < m → (pair_at n rows q).0 ≡ f (signed (lone_letter m q X) false)
  pub z : (q : ℕ) → q < m → (pair_at n rows q).1 ≡ f (signed (lone_letter m q Z) false)

-- from words of m letters to words of n
pub record KeepsProducts (m n : ℕ) (f : Signed → Signed) : Type 0 where
  pub size : (p : Signed) → length p.letters ≡ m → length (f p).letters ≡ n
  pub identity : (b : Bool) → f (signed (no_letters m) b) ≡ signed (no_letters n) b
  pub product : (p q : Signed) → length p.letters ≡ m → length q.letters ≡ m → f (product p q) ≡ product (f p) (f q)

pub products_kept : (n : ℕ) (f : Signed → Signed) → KeepsWords n f → KeepsProducts n n f
products_kept n f keeps = record { size = keeps.size; identity = keeps.identity; product = keeps.product }

-- the map on the words after the first letter
abbrev behind : (Signed → Signed) → Signed → Signed
behind f p = f (signed (I ∷ p.letters) p.negative)

behind_keeps : (m n : ℕ) (f : Signed → Signed) → KeepsProducts (suc m) n f → KeepsProducts m n (behind f)
behind_keeps m n f keeps =
    record {
      size = λ p h. keeps.size (signed (I ∷ p.letters) p.negative) (ap suc h);
      identity = keeps.identity;
      product = λ p q h k. keeps.product (signed (I ∷ p.letters) p.negative) (signed (I ∷ q.letters) q.negative) (ap suc h) (ap suc k);
    }

signs_times : (n : ℕ) (b : Bool) (p : Signed) → length p.letters ≡ n → product (signed (no_letters n) b) p ≡ with_sign_changed b p
signs_times n b p h =
    ap₂ signed (letters_product_of_no_letters n p.letters h)
    (ap (λ t. exclusive_or (exclusive_or b p.negative) (is_minus t)) (letters_power_of_none n p.letters) ∙ exclusive_or-false (exclusive_or b p.negative))

pub kept_sign : (m n : ℕ) (f : Signed → Signed) → KeepsProducts m n f → (b : Bool) (p : Signed) → length p.letters ≡ m → f (with_sign_changed b p) ≡ with_sign_changed b (f p)
kept_sign m n f keeps b p h =
    ap f (sym (signs_times m b p h))
    ∙ (keeps.product (signed (no_letters m) b) p (length-replicate m I) h
    ∙ (ap (λ t. product t (f p)) (keeps.identity b) ∙ signs_times n b (f p) (keeps.size p h)))

no_product : (m : ℕ) → letters_product (no_letters m) (no_letters m) ≡ no_letters m
no_product m = letters_product_of_no_letters m (no_letters m) (length-replicate m I)

-- a letter before others
in_front : (m : ℕ) (a : Letter) (p : List Letter) → length p ≡ m → product (signed (a ∷ no_letters m) false) (signed (I ∷ p) false) ≡ signed (a ∷ p) false
in_front m a p h =
    ap₂ signed (ap₂ (λ b q. b ∷ q) (letter_product-I a) (letters_product_of_no_letters m p h))
    (ap₂ (λ s t. is_minus (power_product s t)) (letter_power-I a) (letters_power_of_none m p))

front_Y : (m : ℕ) → with_sign_changed true (product (signed (X ∷ no_letters m) false) (signed (Z ∷ no_letters m) false)) ≡ signed (Y ∷ no_letters m) false
front_Y m =
    ap₂ (λ p s. with_sign_changed true (signed (Y ∷ p) (is_minus (power_product (letter_power X Z) s)))) (no_product m) (letters_power_of_none m (no_letters m))

word_of_front : (m n : ℕ) (f : Signed → Signed) (r : Pair) (a : Letter) → KeepsProducts (suc m) n f → r.0 ≡ f (signed (X ∷ no_letters m) false) → r.1 ≡ f (signed (Z ∷ no_letters m) false) → word_of n r a ≡ f (signed (a ∷ no_letters m) false)
word_of_front m n f r I keeps x z = sym (keeps.identity false)
word_of_front m n f r X keeps x z = x
word_of_front m n f r Y keeps x z =
    let size : (a : Letter) → length (a ∷ no_letters m) ≡ suc m = λ a. ap suc (length-replicate m I) in
    let xm = signed (X ∷ no_letters m) false in
    let zm = signed (Z ∷ no_letters m) false in
    ap (with_sign_changed true) (ap₂ product x z ∙ sym (keeps.product xm zm (size X) (size Z)))
    ∙ (sym (kept_sign (suc m) n f keeps true (product xm zm) (product_size (suc m) xm zm (size X) (size Z)))
    ∙ ap f (front_Y m))
word_of_front m n f r Z keeps x z = z

letters_known : (m n : ℕ) (f : Signed → Signed) (rows : List Pair) (p : List Letter) → KeepsProducts m n f → AreRows m n f rows → length rows ≡ m → length p ≡ m → letters_encoded n rows p ≡ f (signed p false)
letters_known zero n f [] p keeps are h k = sym (keeps.identity false) ∙ ap (λ q. f (signed q false)) (sym (none p k)) where
  none : (p : List Letter) → length p ≡ 0 → p ≡ []
  none [] k = refl
  none (a ∷ p) k = cc
letters_known zero n f (r ∷ rows) p keeps are h k = cc
letters_known (suc m) n f [] p keeps are h k = cc
letters_known (suc m) n f (r ∷ rows) [] keeps are h k = cc
letters_known (suc m) n f (r ∷ rows) (a ∷ p) keeps are h k =
    ap₂ product
    (word_of_front m n f r a keeps (are.x 0 (omega arith)) (are.z 0 (omega arith)))
    (letters_known m n (behind f) rows p (behind_keeps m n f keeps)
    (record { x = λ q l. are.x (suc q) (omega arith); z = λ q l. are.z (suc q) (omega arith) })
    (suc_inj h) (suc_inj k))
    ∙ (sym (keeps.product (signed (a ∷ no_letters m) false) (signed (I ∷ p) false) (ap suc (length-replicate m I)) k)
    ∙ ap f (in_front m a p (suc_inj k)))

pub encoded_known : (m n : ℕ) (f : Signed → Signed) (rows : List Pair) → KeepsProducts m n f → AreRows m n f rows → length rows ≡ m → (p : Signed) → length p.letters ≡ m → encoded n rows p ≡ f p
encoded_known m n f rows keeps are h p k =
    ap (with_sign_changed p.negative) (letters_known m n f rows p.letters keeps are h k)
    ∙ (sym (kept_sign m n f keeps p.negative (signed p.letters false) k)
    ∙ ap (λ t. f (signed p.letters t)) (exclusive_or-false p.negative))

-- rows give back themselves

pub word_of_size : (n : ℕ) (r : Pair) (a : Letter) → length r.0.letters ≡ n → length r.1.letters ≡ n → length (word_of n r a).letters ≡ n
word_of_size n r I x z = length-replicate n I
word_of_size n r X x z = x
word_of_size n r Y x z = product_size n r.0 r.1 x z
word_of_size n r Z x z = z

record Sizes (m n : ℕ) (rows : List Pair) : Type 0 where
  x : (q : ℕ) → q < m → length (pair_at n rows q).0.letters ≡ n
  z : (q : ℕ) → q < m → length (pair_at n rows q).1.letters ≡ n

sizes_behind : (m n : ℕ) (r : Pair) (rows : List Pair) → Sizes (suc m) n (r ∷ rows) → Sizes m n rows
sizes_behind m n r rows sizes = record { x = λ q l. sizes.x (suc q) (omega arith); z = λ q l. sizes.z (suc q) (omega arith) }

none_encoded : (m n : ℕ) (rows : List Pair) → letters_encoded n rows (no_letters m) ≡ identity_word n
none_encoded zero n [] = refl
none_encoded zero n (r ∷ rows) = refl
none_encoded (suc m) n [] = refl
none_encoded (suc m) n (r ∷ rows) = ap (product (identity_word n)) (none_encoded m n rows) ∙ product_of_identity n (identity_word n) (length-replicate n I)

lone_encoded : (m n : ℕ) (rows : List Pair) (q : ℕ) (a : Letter) → Sizes m n rows → length rows ≡ m → q < m → letters_encoded n rows (lone_letter m q a) ≡ word_of n (pair_at n rows q) a
lone_encoded zero n rows q a sizes h k = absurd (omega arith)
lone_encoded (suc m) n [] q a sizes h k = cc
lone_encoded (suc m) n (r ∷ rows) zero a sizes h k =
    ap (product (word_of n r a)) (none_encoded m n rows)
    ∙ times_identity n (word_of n r a) (word_of_size n r a (sizes.x 0 (omega arith)) (sizes.z 0 (omega arith)))
lone_encoded (suc m) n (r ∷ rows) (suc q) a sizes h k =
    let rest = sizes_behind m n r rows sizes in
    let l : q < m = omega arith in
    ap (product (identity_word n)) (lone_encoded m n rows q a rest (suc_inj h) l)
    ∙ product_of_identity n (word_of n (pair_at n rows q) a) (word_of_size n (pair_at n rows q) a (rest.x q l) (rest.z q l))

module _ (n : ℕ) (rows : List Pair) (is : IsTableau n rows) where
  pub row_encoded : (q : ℕ) (a : Letter) → q < n → encoded n rows (signed (lone_letter n q a) false) ≡ word_of n (pair_at n rows q) a
  row_encoded q a k = lone_encoded n n rows q a (record { x = is.x_size; z = is.z_size }) is.count k

-- maps that agree on words of n letters

pub keeps_as : (n : ℕ) (f g : Signed → Signed) → KeepsWords n f → ((p : Signed) → length p.letters ≡ n → g p ≡ f p) → KeepsWords n g
keeps_as n f g keeps same =
    record {
      size = λ p h. ap (λ t. length t.letters) (same p h) ∙ keeps.size p h;
      identity = λ b. same (signed (no_letters n) b) (length-replicate n I) ∙ keeps.identity b;
      anticommuting = λ p q h k. ap₂ (λ s t. anticommute s.letters t.letters) (same p h) (same q k) ∙ keeps.anticommuting p q h k;
      product = λ p q h k. same (product p q) (product_size n p q h k) ∙ (keeps.product p q h k ∙ sym (ap₂ product (same p h) (same q k)));
    }

pub clifford_as : (n : ℕ) (f g : Signed → Signed) → IsClifford n f → ((p : Signed) → length p.letters ≡ n → g p ≡ f p) → IsClifford n g
clifford_as n f g is same =
    record {
      keeps = keeps_as n f g is.keeps same;
      back = is.back;
      back_keeps = is.back_keeps;
      left = λ p h. ap is.back (same p h) ∙ is.left p h;
      right = λ p h. same (is.back p) (is.back_keeps.size p h) ∙ is.right p h;
    }

keeps_after : (n : ℕ) (f g : Signed → Signed) → KeepsWords n f → KeepsWords n g → KeepsWords n (λ p. f (g p))
keeps_after n f g outer inner =
    record {
      size = λ p h. outer.size (g p) (inner.size p h);
      identity = λ b. ap f (inner.identity b) ∙ outer.identity b;
      anticommuting = λ p q h k. outer.anticommuting (g p) (g q) (inner.size p h) (inner.size q k) ∙ inner.anticommuting p q h k;
      product = λ p q h k. ap f (inner.product p q h k) ∙ outer.product (g p) (g q) (inner.size p h) (inner.size q k);
    }

pub clifford_after : (n : ℕ) (f g : Signed → Signed) → IsClifford n f → IsClifford n g → IsClifford n (λ p. f (g p))
clifford_after n f g outer inner =
    record {
      keeps = keeps_after n f g outer.keeps inner.keeps;
      back = λ p. inner.back (outer.back p);
      back_keeps = keeps_after n inner.back outer.back inner.back_keeps outer.back_keeps;
      left = λ p h. ap inner.back (outer.left (g p) (inner.keeps.size p h)) ∙ inner.left p h;
      right = λ p h. ap f (inner.right (outer.back p) (outer.back_keeps.size p h)) ∙ outer.right p h;
    }

-- rows of a Clifford map are a tableau that encodes by it
pub made : (n : ℕ) (f : Signed → Signed) (rows : List Pair) → IsClifford n f → AreRows n n f rows → length rows ≡ n → IsTableau n rows
made n f rows is are h =
    record {
      count = h;
      x_size = λ q l. ap (λ t. length t.letters) (are.x q l) ∙ is.keeps.size (signed (lone_letter n q X) false) (length-lone_letter n q X);
      z_size = λ q l. ap (λ t. length t.letters) (are.z q l) ∙ is.keeps.size (signed (lone_letter n q Z) false) (length-lone_letter n q Z);
      clifford = clifford_as n f (encoded n rows) is (encoded_known n n f rows (products_kept n f is.keeps) are h);
    }
