-- What controlled gates make of pairs in place, and that it is what the images of the letters say.
use Rattle.std.proofs.Common.{◌≡◌, ◌≢◌, ◌<◌, ◌≤◌, ◌++◌, inl, inr, ℕ, zero, suc, Bool, true, false, List, [], ◌∷◌, length, take, drop, set, get_or, refl, ap, ap₂, sym, subst, ◌∙◌, arith}
use Rattle.std.proofs.lemmas.Bool.{cases_lt}
use Rattle.std.proofs.lemmas.List.{get_or_default, length-drop, length-take-le}
use Rattle.std.proofs.Math.Nat.{suc_inj}
use Rattle.gate_table.specs.declared.gate.Gate.{Gate}
use Rattle.gate_table.specs.declared.gate.Gate.TheVariants as gate
use Rattle.gate_table.specs.Images.{factor}
use Rattle.pauli_word.specs.declared.letter.Letter.{Letter}
use Rattle.pauli_word.specs.declared.letter.Letter.TheVariants.{I, X, Y, Z}
use Rattle.pauli_word.specs.Letters.{letters_clash}
use Rattle.pauli_word.specs.Words.{Signed, anticommute, product, with_sign_changed}
use Rattle.pauli_word.specs.Groups.{identity_word}
use Rattle.pauli_word.proofs.SignedLaws.{product_comm}
use Rattle.pauli_word.proofs.WordLaws.{anticommute_comm}
use Rattle.tableau.specs.private.ControlledSteps.{IsControlled, after_controlled, controlled_pair}
use Rattle.tableau.specs.private.Encoding.{Pair, word_of, pair_at, HasLength, IsTableau}
use Rattle.tableau.specs.private.EncodingSteps.{preimage_product, after_two}
use Rattle.tableau.proofs.PairWords.{pairs_commute, two_commute, first_made, second_made}
use Rattle.tableau.proofs.RowMaps.{word_of_size}
use Rattle.tableau.proofs.Turns.{product_size, times_identity}

pub factor_is_Y : (b : Bool) (a : Letter) → factor b a ≡ Y → a ≡ Y
factor_is_Y true a e = e
factor_is_Y false a e = cc

module _ (n : ℕ) (A B : Letter) (r s : Pair) (r_size : HasLength n r) (s_size : HasLength n s) where
  pub controlled_size : HasLength n (controlled_pair n A B r s)
  controlled_size =
      record {
        x = product_size n r.0 (word_of n s (factor (letters_clash X A) B)) r_size.x (word_of_size n s (factor (letters_clash X A) B) s_size.x s_size.z);
        z = product_size n r.1 (word_of n s (factor (letters_clash Z A) B)) r_size.z (word_of_size n s (factor (letters_clash Z A) B) s_size.x s_size.z);
      }

-- the word of a pair's own letter is as it was
pub own_kept : (n : ℕ) (A B : Letter) (r s : Pair) → HasLength n r → A ≢ Y → (c : Bool) → word_of n (controlled_pair n A B r s) (factor c A) ≡ word_of n r (factor c A)
own_kept n A B r s size own false = refl
own_kept n I B r s size own true = refl
own_kept n X B r s size own true = times_identity n r.0 size.x
own_kept n Y B r s size own true = absurd (own refl)
own_kept n Z B r s size own true = times_identity n r.1 size.z

-- so the second pair is multiplied as by the first pair before
pub second_multiplied : (n m : ℕ) (A B : Letter) (r s after new : Pair) → HasLength n r → A ≢ Y → m ≡ n → after ≡ controlled_pair n A B r s → new ≡ controlled_pair m B A s after → new ≡ controlled_pair n B A s r
second_multiplied n m A B r s after new size own m_is after_is e =
    e
    ∙ (ap₂ (λ k t. controlled_pair k B A s t) m_is after_is
    ∙ ap₂ (λ x z. (product s.0 x, product s.1 z)) (own_kept n A B r s size own (letters_clash X B)) (own_kept n A B r s size own (letters_clash Z B)))

module _ (n : ℕ) (g : Gate) (A B : Letter) (is : IsControlled g A B) (r s : Pair) where
  abbrev of_image : Letter × Letter × Bool → Signed
  of_image image = with_sign_changed image.2 (product (word_of n r image.0) (word_of n s image.1))

  first_images : controlled_pair n A B r s ≡ (preimage_product n g r s (X, I), preimage_product n g r s (Z, I))
  first_images = sym (ap₂ (λ x z. (x, z)) (ap of_image is.first_X) (ap of_image is.first_Z))

  second_images : ((x y : Letter) → anticommute (word_of n r x).letters (word_of n s y).letters ≡ false) → controlled_pair n B A s r ≡ (preimage_product n g r s (I, X), preimage_product n g r s (I, Z))
  second_images commute =
      ap₂ (λ x z. (x, z))
      (turned_round X (factor (letters_clash X B) A) ∙ sym (ap of_image is.second_X))
      (turned_round Z (factor (letters_clash Z B) A) ∙ sym (ap of_image is.second_Z))
    where
      turned_round : (y x : Letter) → product (word_of n s y) (word_of n r x) ≡ product (word_of n r x) (word_of n s y)
      turned_round y x =
          product_comm (word_of n s y) (word_of n r x)
          (anticommute_comm (word_of n s y).letters (word_of n r x).letters ∙ commute x y)

-- the rows after the gate
pub controlled_rows : (rows : List Pair) → IsTableau (length rows) rows → (g : Gate) (A B : Letter) → IsControlled g A B → (a b : ℕ) → a < length rows → b < length rows → a ≢ b → after_controlled A B a b rows ≡ after_two (length rows) g a b rows
controlled_rows rows is g A B controlled a b a_in b_in ne =
    let n = length rows in
    let r = pair_at n rows a in
    let s = pair_at n rows b in
    let r_is = get_or_default rows a (identity_word n, identity_word n) r a_in in
    let s_is = get_or_default rows b (identity_word n, identity_word n) s b_in in
    ap₂ (λ x y. set (set rows a x) b y)
    (first_made rows is g a b a_in b_in ne r s r_is s_is n refl (controlled_pair n A B r s) (first_images n g A B controlled r s))
    (second_made rows is g a b a_in b_in ne r s r_is s_is n refl (controlled_pair n B A s r)
    (second_images n g A B controlled r s (pairs_commute rows is g a b a_in b_in ne r s r_is s_is n refl)))

-- two places of a list, written through its two parts
pub parts_set : {T : Type 0} (l : List T) (a b : ℕ) (x y : T) → a < b → b < length l → set (take b l) a x ++ set (drop b l) 0 y ≡ set (set l a x) b y
parts_set [] a b x y h k = absurd (omega (arith, k))
parts_set (t ∷ l) a zero x y h k = absurd (omega (arith, h))
parts_set (t ∷ l) zero (suc b) x y h k = ap (λ m. x ∷ m) (back_set l b y)
  where
    back_set : {T : Type 0} (l : List T) (b : ℕ) (y : T) → take b l ++ set (drop b l) 0 y ≡ set l b y
    back_set [] zero y = refl
    back_set [] (suc b) y = refl
    back_set (t ∷ l) zero y = refl
    back_set (t ∷ l) (suc b) y = ap (λ m. t ∷ m) (back_set l b y)
parts_set (t ∷ l) (suc a) (suc b) x y h k = ap (λ m. t ∷ m) (parts_set l a b x y (omega (arith, h)) (omega (arith, k)))

pub set_swapped : {T : Type 0} (l : List T) (a b : ℕ) (x y : T) → a ≢ b → set (set l a x) b y ≡ set (set l b y) a x
set_swapped [] a b x y ne = refl
set_swapped (t ∷ l) zero zero x y ne = absurd (ne refl)
set_swapped (t ∷ l) zero (suc b) x y ne = refl
set_swapped (t ∷ l) (suc a) zero x y ne = refl
set_swapped (t ∷ l) (suc a) (suc b) x y ne = ap (λ m. t ∷ m) (set_swapped l a b x y (λ e. ne (ap suc e)))

pub in_front : {T : Type 0} (l : List T) (a b : ℕ) (d e : T) → a < b → b < length l → get_or (take b l) a d ≡ get_or l a e
in_front [] a b d e h k = absurd (omega (arith, k))
in_front (t ∷ l) a zero d e h k = absurd (omega (arith, h))
in_front (t ∷ l) zero (suc b) d e h k = refl
in_front (t ∷ l) (suc a) (suc b) d e h k = in_front l a b d e (omega (arith, h)) (omega (arith, k))

pub at_back : {T : Type 0} (l : List T) (b : ℕ) (d e : T) → b < length l → get_or (drop b l) 0 d ≡ get_or l b e
at_back [] b d e k = absurd (omega (arith, k))
at_back (t ∷ l) zero d e k = refl
at_back (t ∷ l) (suc b) d e k = at_back l b d e (omega (arith, k))

-- the places are inside the two parts
pub front_inside : {T : Type 0} (l front : List T) (a b : ℕ) → front ≡ take b l → a < b → b < length l → a < length front
front_inside l front a b is h k = subst (λ n. a < n) (sym (ap length is ∙ length-take-le b l (omega (arith, k)))) h

pub back_inside : {T : Type 0} (l back : List T) (b : ℕ) → back ≡ drop b l → b < length l → 0 < length back
back_inside l back b is k = omega (arith, ap length is, length-drop b l, k)

pub comes_after : (a b : ℕ) → b ≤ a → a ≢ b → b < a
comes_after a b h ne = elim (cases_lt b a) [ inl e ↦ e | inr e ↦ absurd (ne (omega (arith, h, e))) ]

pub written_back : {T : Type 0} (new rest : List T) (n : ℕ) → length new ≡ n → take n (new ++ rest) ≡ new
written_back [] rest zero e = refl
written_back [] rest (suc n) e = cc
written_back (t ∷ new) rest zero e = cc
written_back (t ∷ new) rest (suc n) e = ap (λ l. t ∷ l) (written_back new rest n (suc_inj e))

-- the pairs at two places, as they are read
pub record AreRead (rows : List Pair) (a b : ℕ) (r s : Pair) : Type 0 where
  pub first : r ≡ pair_at (length rows) rows a
  pub second : s ≡ pair_at (length rows) rows b

-- through the two parts of the rows, where the first place comes before the second, and where it comes after
pub read_ahead : (rows front back : List Pair) (a b : ℕ) (d e : Pair) → front ≡ take b rows → back ≡ drop b rows → a < b → b < length rows → AreRead rows a b (get_or front a d) (get_or back 0 e)
read_ahead rows front back a b d e front_is back_is order inside =
    record {
      first = ap (λ l. get_or l a d) front_is ∙ in_front rows a b _ _ order inside;
      second = ap (λ l. get_or l 0 e) back_is ∙ at_back rows b _ _ inside;
    }

pub read_behind : (rows front back : List Pair) (a b : ℕ) (d e : Pair) → front ≡ take a rows → back ≡ drop a rows → b < a → a < length rows → AreRead rows a b (get_or back 0 e) (get_or front b d)
read_behind rows front back a b d e front_is back_is order inside =
    let read = read_ahead rows front back b a d e front_is back_is order inside in
    record { first = read.second; second = read.first }

-- the two pairs as they are read
module _ (rows : List Pair) (is : IsTableau (length rows) rows) (a b : ℕ) (a_in : a < length rows) (b_in : b < length rows) (ne : a ≢ b) (r s : Pair) (read : AreRead rows a b r s) where
  abbrev n : ℕ
  n = length rows

  r_size : HasLength n r
  r_size = subst (HasLength n) (sym read.first) (record { x = is.x_size a a_in; z = is.z_size a a_in })

  s_size : HasLength n s
  s_size = subst (HasLength n) (sym read.second) (record { x = is.x_size b b_in; z = is.z_size b b_in })

  pub first_there : HasLength (length r.0.letters) r
  first_there = subst (λ m. HasLength m r) (sym r_size.x) r_size

  pub second_there : HasLength (length r.0.letters) s
  second_there = subst (λ m. HasLength m s) (sym r_size.x) s_size

  pub commute_there : (x : Letter) → anticommute (word_of (length r.0.letters) r x).letters s.1.letters ≡ false
  commute_there =
      two_commute rows is gate.CX a b a_in b_in ne r s
      (read.first ∙ get_or_default rows a (identity_word n, identity_word n) r a_in)
      (read.second ∙ get_or_default rows b (identity_word n, identity_word n) s b_in)
      (length r.0.letters) r_size.x

  pub made_there : (A B : Letter) (first second : Pair) → first ≡ controlled_pair (length r.0.letters) A B r s → second ≡ controlled_pair (length r.0.letters) B A s r → set (set rows a first) b second ≡ after_controlled A B a b rows
  made_there A B first second first_is second_is =
      ap₂ (λ x y. set (set rows a x) b y)
      (first_is ∙ (ap (λ m. controlled_pair m A B r s) r_size.x ∙ ap₂ (controlled_pair n A B) read.first read.second))
      (second_is ∙ (ap (λ m. controlled_pair m B A s r) r_size.x ∙ ap₂ (controlled_pair n B A) read.second read.first))
