-- The words that loops and gates make of pairs, step by step.
use Rattle.std.proofs.Common.{◌≡◌, ◌≢◌, ◌<◌, ◌&&◌, ◌+◌, ℕ, zero, suc, true, false, List, [], ◌∷◌, length, set, get_or, refl, ap, ap₂, sym, subst, ◌∙◌, length-set, get_or-set_same, get_or-set_other, set-set, arith}
use Rattle.std.proofs.lemmas.List.{length-replicate, get_or_default}
use Rattle.gate_table.specs.declared.gate.Gate.{Gate}
use Rattle.gate_table.specs.declared.gate.Gate.TheVariants.{Swap}
use Rattle.gate_table.specs.Images.{image1, image2, inverse_of}
use Rattle.gate_table.specs.WordImages.{preimage_at, preimage_at_two}
use Rattle.gate_table.proofs.WordImageLaws.{letter_at-none}
use Rattle.pauli_word.specs.declared.letter.Letter.{Letter}
use Rattle.pauli_word.specs.declared.letter.Letter.TheVariants.{I, X, Y, Z}
use Rattle.pauli_word.specs.Letters.{letters_clash}
use Rattle.pauli_word.specs.Parity.{exclusive_or}
use Rattle.pauli_word.specs.Words.{Signed, signed, with_sign_changed, anticommute, product, no_letters, lone_letter, letter_at, HasNoneBetween}
use Rattle.pauli_word.specs.Groups.{identity_word}
use Rattle.pauli_word.proofs.LetterLaws.{letters_clash_comm, letters_clash_of_I}
use Rattle.pauli_word.proofs.LoneLetters.{length-lone_letter, anticommute-lone_letter}
use Rattle.pauli_word.proofs.Parities.{exclusive_or-false}
use Rattle.pauli_word.proofs.SignedLaws.{product-sign_changed_right, product_of_identity}
use Rattle.pauli_word.proofs.WordLaws.{anticommute_comm}
use Rattle.tableau.specs.private.Encoding.{Pair, word_of, encoded, pair_at, IsTableau, HasLength}
use Rattle.tableau.specs.private.EncodingSteps.{lone, code_of, first_letters, preimage_word, preimage_product, pair_under, after_two}
use Rattle.tableau.proofs.FirstLetters.{length-first, first-skip, first-next, first-one_more, product-lone}
use Rattle.tableau.proofs.RowMaps.{products_kept, kept_sign, row_encoded, word_of_size}
use Rattle.tableau.proofs.Turns.{regrouped, times_identity}

set_comm : (l : List Letter) (i j : ℕ) (u v : Letter) → i ≢ j → set (set l i u) j v ≡ set (set l j v) i u
set_comm [] i j u v ne = refl
set_comm (a ∷ l) zero zero u v ne = absurd (ne refl)
set_comm (a ∷ l) zero (suc j) u v ne = refl
set_comm (a ∷ l) (suc i) zero u v ne = refl
set_comm (a ∷ l) (suc i) (suc j) u v ne = ap (λ t. a ∷ t) (set_comm l i j u v (λ e. ne (ap suc e)))

pub times_I : (p : Signed) (r : Pair) (a : Letter) → a ≡ I → p ≡ product p (word_of (length p.letters) r a)
times_I p r a e = sym (ap (λ t. product p (word_of (length p.letters) r t)) e ∙ times_identity (length p.letters) p refl)

pub times_Y : (n : ℕ) (p : Signed) (r : Pair) (a : Letter) → length p.letters ≡ n → HasLength n r → anticommute p.letters r.1.letters ≡ false → a ≡ Y → with_sign_changed true (product (product p r.0) r.1) ≡ product p (word_of n r a)
times_Y n p r a size r_size apart e =
    ap (with_sign_changed true)
    (regrouped n p r.0 r.1 size r_size.x r_size.z
    ∙ ap (λ t. with_sign_changed (t && exclusive_or (anticommute p.letters r.0.letters) (anticommute r.0.letters r.1.letters)) (product p (product r.0 r.1))) apart)
    ∙ (sym (product-sign_changed_right true p (product r.0 r.1)) ∙ ap (λ t. product p (word_of n r t)) (sym e))

pub started_size : (n : ℕ) (start : Signed) (r : Pair) (a : Letter) → HasLength n r → start ≡ with_sign_changed false (word_of n r a) → length start.letters ≡ n
started_size n start r a r_size h = ap (λ s. length s.letters) h ∙ word_of_size n r a r_size.x r_size.z

pub then_times : (n : ℕ) (start new : Signed) (r s : Pair) (a b : Letter) → HasLength n r → start ≡ with_sign_changed false (word_of n r a) → new ≡ product start (word_of (length start.letters) s b) → new ≡ product (word_of n r a) (word_of n s b)
then_times n start new r s a b r_size h e = e ∙ ap₂ (λ p m. product p (word_of m s b)) h (started_size n start r a r_size h)

pub pair_read : (n : ℕ) (rows : List Pair) (q : ℕ) (r : Pair) → q < length rows → r ≡ get_or rows q r → r ≡ pair_at n rows q
pair_read n rows q r h e = e ∙ get_or_default rows q r (identity_word n, identity_word n) h

module _ (rows : List Pair) (is : IsTableau (length rows) rows) where
  abbrev n : ℕ
  n = length rows

  abbrev E : Signed → Signed
  E = encoded n rows

  pub pair_size : (q : ℕ) (r : Pair) → q < n → r ≡ get_or rows q r → HasLength n r
  pair_size q r h e =
      let at = pair_read n rows q r h e in
      record { x = ap (λ t. length t.0.letters) at ∙ is.x_size q h; z = ap (λ t. length t.1.letters) at ∙ is.z_size q h }

  pub pair_long : (q : ℕ) (d : Pair) → q < n → HasLength n (get_or rows q d)
  pair_long q d h = pair_size q (get_or rows q d) h (get_or_default rows q d (get_or rows q d) h)

  lone_at : (q : ℕ) (a : Letter) → q < n → letter_at (lone_letter n q a) q ≡ a
  lone_at q a h = get_or-set_same (no_letters n) q a I (subst (λ m. q < m) (sym (length-replicate n I)) h)

  pub pair_apart : (q : ℕ) (r : Pair) → q < n → r ≡ get_or rows q r → anticommute r.0.letters r.1.letters ≡ true
  pair_apart q r h e =
      ap (λ t. anticommute t.0.letters t.1.letters) (pair_read n rows q r h e)
      ∙ (ap₂ (λ x z. anticommute x.letters z.letters) (sym (row_encoded n rows is q X h)) (sym (row_encoded n rows is q Z h))
      ∙ (is.clifford.keeps.anticommuting (lone n q X) (lone n q Z) (length-lone_letter n q X) (length-lone_letter n q Z)
      ∙ (anticommute-lone_letter n (lone_letter n q Z) q X (length-lone_letter n q Z) h ∙ ap (letters_clash X) (lone_at q Z h))))

  -- the code of a word to which a letter is added
  module _ (w : List Letter) (q : ℕ) (size : length w ≡ n) (h : q < n) (at_q : letter_at w q ≡ I) where
    pub code_added : (a : Letter) → product (E (signed w false)) (word_of n (pair_at n rows q) a) ≡ E (signed (set w q a) false)
    code_added a =
        ap (product (E (signed w false))) (sym (row_encoded n rows is q a h))
        ∙ (sym (is.clifford.keeps.product (signed w false) (lone n q a) size (length-lone_letter n q a))
        ∙ ap E (product-lone n w q a size h at_q))

    pub code_commutes : (a : Letter) → anticommute (E (signed w false)).letters (word_of n (pair_at n rows q) a).letters ≡ false
    code_commutes a =
        ap (λ v. anticommute (E (signed w false)).letters v.letters) (sym (row_encoded n rows is q a h))
        ∙ (is.clifford.keeps.anticommuting (signed w false) (lone n q a) size (length-lone_letter n q a)
        ∙ (anticommute_comm w (lone_letter n q a)
        ∙ (anticommute-lone_letter n w q a size h ∙ (ap (letters_clash a) at_q ∙ (letters_clash_comm a I ∙ letters_clash_of_I a)))))

  -- a turn of the loop that encodes
  module _ (w : List Letter) (q : ℕ) (size : length w ≡ n) (h : q < n) (code : Signed) (code_is : code ≡ code_of n rows (first_letters q w)) (r : Pair) (r_is : r ≡ get_or rows q r) where
    first_size : length (first_letters q w) ≡ n
    first_size = length-first q w ∙ size

    code_size : length code.letters ≡ n
    code_size = ap (λ c. length c.letters) code_is ∙ is.clifford.keeps.size (signed (first_letters q w) false) first_size

    pub encode_size : HasLength (length code.letters) r
    encode_size = subst (λ m. HasLength m r) (sym code_size) (pair_size q r h r_is)

    pub encode_commutes : anticommute code.letters r.1.letters ≡ false
    encode_commutes =
        ap₂ (λ c v. anticommute c.letters v.1.letters) code_is (pair_read n rows q r h r_is)
        ∙ code_commutes (first_letters q w) q first_size h (first-next q w) Z

    pub encode_more : (new : Signed) (a : Letter) → a ≡ letter_at w q → new ≡ product code (word_of (length code.letters) r a) → new ≡ code_of n rows (first_letters (q + 1) w)
    encode_more new a a_is e =
        e
        ∙ (ap₂ (λ m v. product code (word_of m v a)) code_size (pair_read n rows q r h r_is)
        ∙ (ap (λ c. product c (word_of n (pair_at n rows q) a)) code_is
        ∙ (code_added (first_letters q w) q first_size h (first-next q w) a
        ∙ ap (code_of n rows) (ap (set (first_letters q w) q) a_is ∙ first-one_more q w (subst (λ m. q < m) (sym size) h)))))

  -- before any letter the code is the identity
  pub none_encoded : (w : List Letter) → length w ≡ n → identity_word n ≡ code_of n rows (first_letters 0 w)
  none_encoded w size = sym (is.clifford.keeps.identity false) ∙ ap (λ m. code_of n rows (no_letters m)) (sym size)

  -- the first letter's code is copied
  pub first_encoded : (w : List Letter) (q : ℕ) → length w ≡ n → q < n → HasNoneBetween w 0 q → (r : Pair) → r ≡ get_or rows q r → (m : ℕ) → m ≡ n
      → (new : Signed) (a : Letter) → a ≡ letter_at w q → new ≡ with_sign_changed false (word_of m r a) → new ≡ code_of n rows (first_letters (q + 1) w)
  first_encoded w q size h none r r_is m m_is new a a_is e =
      let s = pair_size q r h r_is in
      encode_more w q size h (identity_word n) (none_encoded w size ∙ ap (code_of n rows) (first-skip 0 q w (omega arith) none)) r r_is new a a_is
      (e
      ∙ (ap (λ k. word_of k r a) m_is
      ∙ (sym (product_of_identity n (word_of n r a) (word_of_size n r a s.x s.z))
      ∙ ap (λ k. product (identity_word n) (word_of k r a)) (sym (length-replicate n I)))))

  -- gates
  module _ (g : Gate) (q : ℕ) (h : q < n) where
    preimage_lone : (a : Letter) → preimage_at g q (lone n q a) ≡ with_sign_changed (image1 (inverse_of g) a).1 (lone n q (image1 (inverse_of g) a).0)
    preimage_lone a =
        let image = image1 (inverse_of g) a in
        ap (λ b. signed (set (lone_letter n q a) q (image1 (inverse_of g) b).0) (image1 (inverse_of g) b).1) (lone_at q a h)
        ∙ ap₂ signed (set-set (no_letters n) q a image.0) (sym (exclusive_or-false image.1))

    preimage_is : (a : Letter) → preimage_word n g (pair_at n rows q) a ≡ E (preimage_at g q (lone n q a))
    preimage_is a =
        let image = image1 (inverse_of g) a in
        sym
        (ap E (preimage_lone a)
        ∙ (kept_sign n n E (products_kept n E is.clifford.keeps) image.1 (lone n q image.0) (length-lone_letter n q image.0)
        ∙ ap (with_sign_changed image.1) (row_encoded n rows is q image.0 h)))

    pub one_made : (m : ℕ) (r new : Pair) → m ≡ n → r ≡ get_or rows q r → new ≡ (preimage_word m g r X, preimage_word m g r Z) → new ≡ pair_under n (λ p. E (preimage_at g q p)) q
    one_made m r new m_is r_is e =
        e
        ∙ (ap₂ (λ k t. (preimage_word k g t X, preimage_word k g t Z)) m_is (pair_read n rows q r h r_is)
        ∙ ap₂ (λ x z. (x, z)) (preimage_is X) (preimage_is Z))

  module _ (g : Gate) (a b : ℕ) (a_in : a < n) (b_in : b < n) (ne : a ≢ b) where
    at_b : (x : Letter) → letter_at (lone_letter n a x) b ≡ I
    at_b x = get_or-set_other (no_letters n) a b x I (λ e. ne (sym e)) ∙ letter_at-none n b

    abbrev two : Letter → Letter → Signed
    two x y = signed (set (lone_letter n a x) b y) false

    two_encoded : (x y : Letter) → E (two x y) ≡ product (word_of n (pair_at n rows a) x) (word_of n (pair_at n rows b) y)
    two_encoded x y =
        sym (code_added (lone_letter n a x) b (length-lone_letter n a x) b_in (at_b x) y)
        ∙ ap (λ w. product w (word_of n (pair_at n rows b) y)) (row_encoded n rows is a x a_in)

    -- the preimage of letters there
    preimage_two : (p : List Letter) (x y : Letter) → letter_at p a ≡ x → letter_at p b ≡ y → ((u v : Letter) → set (set p a u) b v ≡ set (lone_letter n a u) b v) → preimage_product n g (pair_at n rows a) (pair_at n rows b) (x, y) ≡ E (preimage_at_two g a b (signed p false))
    preimage_two p x y p_a p_b same =
        let image = image2 (inverse_of g) x y in
        sym
        (ap E
        (ap₂ (λ u v. let i = image2 (inverse_of g) u v in signed (set (set p a i.0) b i.1) i.2) p_a p_b
        ∙ ap₂ signed (same image.0 image.1) (sym (exclusive_or-false image.2)))
        ∙ (kept_sign n n E (products_kept n E is.clifford.keeps) image.2 (two image.0 image.1) (set_size image.0 image.1)
        ∙ ap (with_sign_changed image.2) (two_encoded image.0 image.1)))
      where
        set_size : (x y : Letter) → length (set (lone_letter n a x) b y) ≡ n
        set_size x y = length-set (lone_letter n a x) b y ∙ length-lone_letter n a x

    none_b : (y : Letter) → letter_at (lone_letter n b y) a ≡ I
    none_b y = get_or-set_other (no_letters n) b a y I ne ∙ letter_at-none n a

    abbrev f : Signed → Signed
    f p = E (preimage_at_two g a b p)

    first_is : (x : Letter) → preimage_product n g (pair_at n rows a) (pair_at n rows b) (x, I) ≡ f (lone n a x)
    first_is x = preimage_two (lone_letter n a x) x I (lone_at a x a_in) (at_b x) (λ u v. ap (λ l. set l b v) (set-set (no_letters n) a x u))

    second_is : (y : Letter) → preimage_product n g (pair_at n rows a) (pair_at n rows b) (I, y) ≡ f (lone n b y)
    second_is y =
        preimage_two (lone_letter n b y) I y (none_b y) (lone_at b y b_in)
        (λ u v.
        set_comm (lone_letter n b y) a b u v ne
        ∙ (ap (λ l. set l a u) (set-set (no_letters n) b y v) ∙ set_comm (no_letters n) b a v u (λ e. ne (sym e))))

    module _ (r s : Pair) (r_is : r ≡ get_or rows a r) (s_is : s ≡ get_or rows b s) (m : ℕ) (m_is : m ≡ n) where
      both_read : (p : Letter × Letter) → preimage_product m g r s p ≡ preimage_product n g (pair_at n rows a) (pair_at n rows b) p
      both_read p =
          ap (λ k. preimage_product k g r s p) m_is
          ∙ ap₂ (λ t u. preimage_product n g t u p) (pair_read n rows a r a_in r_is) (pair_read n rows b s b_in s_is)

      pub first_made : (new : Pair) → new ≡ (preimage_product m g r s (X, I), preimage_product m g r s (Z, I)) → new ≡ pair_under n f a
      first_made new e = e ∙ ap₂ (λ x z. (x, z)) (both_read (X, I) ∙ first_is X) (both_read (Z, I) ∙ first_is Z)

      pub second_made : (new : Pair) → new ≡ (preimage_product m g r s (I, X), preimage_product m g r s (I, Z)) → new ≡ pair_under n f b
      second_made new e = e ∙ ap₂ (λ x z. (x, z)) (both_read (I, X) ∙ second_is X) (both_read (I, Z) ∙ second_is Z)

      pub pairs_commute : (x y : Letter) → anticommute (word_of m r x).letters (word_of m s y).letters ≡ false
      pairs_commute x y =
          ap (λ k. anticommute (word_of k r x).letters (word_of k s y).letters) m_is
          ∙ (ap₂ (λ t u. anticommute (word_of n t x).letters (word_of n u y).letters) (pair_read n rows a r a_in r_is) (pair_read n rows b s b_in s_is)
          ∙ (ap (λ v. anticommute v.letters (word_of n (pair_at n rows b) y).letters) (sym (row_encoded n rows is a x a_in))
          ∙ code_commutes (lone_letter n a x) b (length-lone_letter n a x) b_in (at_b x) y))

      pub two_commute : (x : Letter) → anticommute (word_of m r x).letters s.1.letters ≡ false
      two_commute x = pairs_commute x Z

-- SWAP exchanges two pairs
pub exchanged : (rows : List Pair) → IsTableau (length rows) rows → (a b : ℕ) → a < length rows → b < length rows → a ≢ b → (r s : Pair) → r ≡ get_or rows a r → s ≡ get_or rows b s
    → set (set rows a s) b r ≡ after_two (length rows) Swap a b rows
exchanged rows is a b a_in b_in ne r s r_is s_is =
    let n = length rows in
    let r_size = pair_size rows is a r a_in r_is in
    let s_size = pair_size rows is b s b_in s_is in
    ap₂ (λ x y. set (set rows a x) b y)
    (first_made rows is Swap a b a_in b_in ne r s r_is s_is n refl s (ap₂ (λ x z. (x, z)) (sym (product_of_identity n s.0 s_size.x)) (sym (product_of_identity n s.1 s_size.z))))
    (second_made rows is Swap a b a_in b_in ne r s r_is s_is n refl r (ap₂ (λ x z. (x, z)) (sym (times_identity n r.0 r_size.x)) (sym (times_identity n r.1 r_size.z))))
