-- The steps that are no collapse: the rows kept after them are those of the map before, after the step's own map undone.
use Rattle.std.proofs.Common.{◌≡◌, ◌≢◌, ◌<◌, inl, inr, ℕ, zero, suc, Bool, true, List, [], ◌∷◌, length, set, refl, ap, ap₂, sym, subst, ◌∙◌, arith, length-set, get_or-set_same, get_or-set_other}
use Rattle.std.proofs.lemmas.List.{get_or-map, length-map, set-get_or}
use Rattle.std.proofs.lemmas.Bool.{cases_eq}
use Rattle.std.proofs.Math.Nat.{suc_inj}
use Rattle.gate_table.specs.declared.gate.Gate.{Gate}
use Rattle.gate_table.specs.Images.{image1, image2, inverse_of}
use Rattle.gate_table.proofs.Identity.{image1-I, image2-I}
use Rattle.pauli_word.specs.declared.letter.Letter.{Letter}
use Rattle.pauli_word.specs.declared.letter.Letter.TheVariants.{I, X, Z}
use Rattle.pauli_word.specs.Letters.{letters_clash}
use Rattle.pauli_word.specs.Parity.{exclusive_or}
use Rattle.pauli_word.specs.Words.{Signed, anticommute, no_letters, lone_letter, letter_at, signed, with_sign_changed}
use Rattle.pauli_word.proofs.Parities.{exclusive_or_assoc, exclusive_or_self}
use Rattle.gate_table.specs.WordImages.{image_at, image_at_two, preimage_at, preimage_at_two}
use Rattle.pauli_word.specs.States.{State, start_state}
use Rattle.pauli_word.specs.Groups.{IsGroup, identity_word}
use Rattle.gate_table.proofs.GateGroups.{image_at_keeps, image_at_two_keeps}
use Rattle.gate_table.proofs.WordImageLaws.{letter_at-none, image_at-preimage_at, preimage_at-image_at}
use Rattle.gate_table.proofs.PairImageLaws.{image_at_two-preimage_at_two, preimage_at_two-image_at_two}
use Rattle.pauli_word.proofs.LoneLetters.{length-lone_letter, anticommute-lone_letter}
use Rattle.pauli_word.proofs.Groups.{IsGroup-moved, IsGroup-start, applied_keeps}
use Rattle.tableau.specs.private.CliffordMaps.{IsClifford}
use Rattle.tableau.specs.private.Encoding.{Pair, word_of, encoded, pair_at, IsTableau}
use Rattle.tableau.specs.private.EncodingSteps.{lone, pair_under, pair_after, after_one, after_two, after_word, mapped}
use Rattle.tableau.proofs.RowMaps.{AreRows, products_kept, kept_sign, encoded_known, row_encoded, clifford_after, made}

-- the maps of gates and of words applied

pub preimage_clifford : (n : ℕ) (g : Gate) (q : ℕ) → q < n → IsClifford n (preimage_at g q)
preimage_clifford n g q within =
    record {
      keeps = image_at_keeps n (inverse_of g) q within;
      back = image_at g q;
      back_keeps = image_at_keeps n g q within;
      left = λ p h. image_at-preimage_at g q p (subst (λ m. q < m) (sym h) within);
      right = λ p h. preimage_at-image_at g q p (subst (λ m. q < m) (sym h) within);
    }

pub preimage_two_clifford : (n : ℕ) (g : Gate) (a b : ℕ) → a < n → b < n → a ≢ b → IsClifford n (preimage_at_two g a b)
preimage_two_clifford n g a b a_in b_in ne =
    record {
      keeps = image_at_two_keeps n (inverse_of g) a b a_in b_in ne;
      back = image_at_two g a b;
      back_keeps = image_at_two_keeps n g a b a_in b_in ne;
      left = λ p h. image_at_two-preimage_at_two g a b p ne (subst (λ m. a < m) (sym h) a_in) (subst (λ m. b < m) (sym h) b_in);
      right = λ p h. preimage_at_two-image_at_two g a b p ne (subst (λ m. a < m) (sym h) a_in) (subst (λ m. b < m) (sym h) b_in);
    }

abbrev pub image_clifford : (n : ℕ) (g : Gate) (q : ℕ) → q < n → IsClifford n (image_at g q)
image_clifford n g q within =
    record {
      keeps = image_at_keeps n g q within;
      back = preimage_at g q;
      back_keeps = image_at_keeps n (inverse_of g) q within;
      left = λ p h. preimage_at-image_at g q p (subst (λ m. q < m) (sym h) within);
      right = λ p h. image_at-preimage_at g q p (subst (λ m. q < m) (sym h) within);
    }

same_twice : (b : Bool) (p : Signed) → with_sign_changed b (with_sign_changed b p) ≡ p
same_twice b p =
    ap (signed p.letters) (sym (exclusive_or_assoc b b p.negative) ∙ ap (λ t. exclusive_or t p.negative) (exclusive_or_self b))

-- a word applied
abbrev pub word_map : List Letter → Signed → Signed
word_map w p = with_sign_changed (anticommute p.letters w) p

word_clifford : (n : ℕ) (w : List Letter) → IsClifford n (word_map w)
word_clifford n w =
    record {
      keeps = applied_keeps n true w;
      back = word_map w;
      back_keeps = applied_keeps n true w;
      left = λ p h. same_twice (anticommute p.letters w) p;
      right = λ p h. same_twice (anticommute p.letters w) p;
    }

-- the words whose code is in the state at the start
abbrev pub code_state : ℕ → List Pair → State
code_state n rows p = start_state (encoded n rows p)

-- what a new tableau owes
pub record Encodes (n : ℕ) (rows : List Pair) (f : Signed → Signed) : Type 0 where
  pub tableau : IsTableau n rows
  pub map : (p : Signed) → length p.letters ≡ n → encoded n rows p ≡ f p

pub encodes : (n : ℕ) (f : Signed → Signed) (rows : List Pair) → IsClifford n f → AreRows n n f rows → length rows ≡ n → Encodes n rows f
encodes n f rows is are h =
    record { tableau = made n f rows is are h; map = encoded_known n n f rows (products_kept n f is.keeps) are h }

module _ (n : ℕ) (rows : List Pair) (is : IsTableau n rows) where
  abbrev E : Signed → Signed
  E p = encoded n rows p

  pub state_is_group : IsGroup n (code_state n rows)
  state_is_group =
      let keeps = is.clifford.keeps in
      IsGroup-moved n (encoded n rows) start_state
      keeps
      (IsGroup-start n)

  abbrev no_pair : Pair
  no_pair = (identity_word n, identity_word n)

  -- every row mapped
  pub mapped_encodes : (c : Signed → Signed) → IsClifford n c → Encodes n (mapped c rows) (λ p. c (E p))
  mapped_encodes c c_is =
      let at : (q : ℕ) → q < n → pair_at n (mapped c rows) q ≡ (c (pair_at n rows q).0, c (pair_at n rows q).1) =
      λ q h. get_or-map (λ r. (c r.0, c r.1)) rows q no_pair no_pair (subst (λ m. q < m) (sym is.count) h) in
      encodes n (λ p. c (E p)) (mapped c rows) (clifford_after n c (encoded n rows) c_is is.clifford)
      (record {
        x = λ q h. ap (λ r. r.0) (at q h) ∙ ap c (sym (row_encoded n rows is q X h));
        z = λ q h. ap (λ r. r.1) (at q h) ∙ ap c (sym (row_encoded n rows is q Z h));
      })
      (length-map rows _ ∙ is.count)

  -- one row replaced, where the map leaves the letters at the other qubits as they are

  other_letter : (q r : ℕ) (a : Letter) → q ≢ r → letter_at (lone_letter n r a) q ≡ I
  other_letter q r a ne = get_or-set_other (no_letters n) r q a I ne ∙ letter_at-none n q

  set_I : (p : List Letter) (q : ℕ) → letter_at p q ≡ I → set p q I ≡ p
  set_I p q h = ap (set p q) (sym h) ∙ set-get_or p q I

  one_elsewhere : (g : Gate) (q r : ℕ) (a : Letter) → r ≢ q → preimage_at g q (lone n r a) ≡ lone n r a
  one_elsewhere g q r a ne =
      let here = other_letter q r a (λ e. ne (sym e)) in
      let at_q = ap (image1 (inverse_of g)) here ∙ image1-I (inverse_of g) in
      ap₂ signed
      (ap (λ t. set (lone_letter n r a) q t.0) at_q ∙ set_I (lone_letter n r a) q here)
      (ap (λ t. t.1) at_q)

  pub one_encodes : (g : Gate) (q : ℕ) → q < n → Encodes n (after_one n g q rows) (λ p. E (preimage_at g q p))
  one_encodes g q within =
      let f : Signed → Signed = λ p. E (preimage_at g q p) in
      let inside : q < length rows = subst (λ m. q < m) (sym is.count) within in
      let at : (r : ℕ) → r < n → (a : Letter) → word_of n (pair_at n (after_one n g q rows) r) a ≡ word_of n (pair_under n f r) a =
      λ r h a. elim (cases_eq r q) [
        | inl e ↦ ap (λ t. word_of n t a) (ap (pair_at n (after_one n g q rows)) e ∙ (get_or-set_same rows q (pair_under n f q) no_pair inside ∙ ap (pair_under n f) (sym e)))
        | inr ne ↦
            ap (λ t. word_of n t a)
            (get_or-set_other rows q r (pair_under n f q) no_pair ne
            ∙ ap₂ (λ s t. (s, t))
            (sym (row_encoded n rows is r X h) ∙ ap E (sym (one_elsewhere g q r X ne)))
            (sym (row_encoded n rows is r Z h) ∙ ap E (sym (one_elsewhere g q r Z ne))))
      ] in
      encodes n f (after_one n g q rows) (clifford_after n (encoded n rows) (preimage_at g q) is.clifford (preimage_clifford n g q within))
      (record { x = λ r h. at r h X; z = λ r h. at r h Z })
      (length-set rows q (pair_under n f q) ∙ is.count)

  two_elsewhere : (g : Gate) (a b r : ℕ) (c : Letter) → r ≢ a → r ≢ b → preimage_at_two g a b (lone n r c) ≡ lone n r c
  two_elsewhere g a b r c na nb =
      let at_a = other_letter a r c (λ e. na (sym e)) in
      let at_b = other_letter b r c (λ e. nb (sym e)) in
      let here = ap₂ (image2 (inverse_of g)) at_a at_b ∙ image2-I (inverse_of g) in
      ap₂ signed
      (ap₂ (λ s t. set (set (lone_letter n r c) a s) b t) (ap (λ t. t.0) here) (ap (λ t. t.1) here)
      ∙ (ap (λ t. set t b I) (set_I (lone_letter n r c) a at_a) ∙ set_I (lone_letter n r c) b at_b))
      (ap (λ t. t.2) here)

  pub two_encodes : (g : Gate) (a b : ℕ) → a < n → b < n → a ≢ b → Encodes n (after_two n g a b rows) (λ p. E (preimage_at_two g a b p))
  two_encodes g a b a_in b_in ne =
      let f : Signed → Signed = λ p. E (preimage_at_two g a b p) in
      let first = set rows a (pair_under n f a) in
      let first_size : length first ≡ n = length-set rows a (pair_under n f a) ∙ is.count in
      let at : (r : ℕ) → r < n → pair_at n (after_two n g a b rows) r ≡ pair_under n f r =
      λ r h. elim (cases_eq r b) [
        | inl e ↦ ap (pair_at n (after_two n g a b rows)) e ∙ (get_or-set_same first b (pair_under n f b) no_pair (subst (λ m. b < m) (sym first_size) b_in) ∙ ap (pair_under n f) (sym e))
        | inr nb ↦ get_or-set_other first b r (pair_under n f b) no_pair nb ∙ elim (cases_eq r a) [
          | inl e ↦ ap (pair_at n first) e ∙ (get_or-set_same rows a (pair_under n f a) no_pair (subst (λ m. a < m) (sym is.count) a_in) ∙ ap (pair_under n f) (sym e))
          | inr na ↦
              get_or-set_other rows a r (pair_under n f a) no_pair na
              ∙ ap₂ (λ s t. (s, t))
              (sym (row_encoded n rows is r X h) ∙ ap E (sym (two_elsewhere g a b r X na nb)))
              (sym (row_encoded n rows is r Z h) ∙ ap E (sym (two_elsewhere g a b r Z na nb)))
        ]
      ] in
      encodes n f (after_two n g a b rows) (clifford_after n (encoded n rows) (preimage_at_two g a b) is.clifford (preimage_two_clifford n g a b a_in b_in ne))
      (record { x = λ r h. ap (λ t. t.0) (at r h); z = λ r h. ap (λ t. t.1) (at r h) })
      (length-set first b (pair_under n f b) ∙ first_size)

  pub word_encodes : (w : List Letter) → length w ≡ n → Encodes n (after_word w rows) (λ p. E (word_map w p))
  word_encodes w size =
      let kept = kept_sign n n (encoded n rows) (products_kept n (encoded n rows) is.clifford.keeps) in
      let under : (q : ℕ) → q < n → (a : Letter) → with_sign_changed (letters_clash a (letter_at w q)) (word_of n (pair_at n rows q) a) ≡ E (word_map w (lone n q a)) =
      λ q h a.
      ap₂ with_sign_changed (sym (anticommute-lone_letter n w q a size h)) (sym (row_encoded n rows is q a h))
      ∙ sym (kept (anticommute (lone_letter n q a) w) (lone n q a) (length-lone_letter n q a)) in
      encodes n (λ p. E (word_map w p)) (after_word w rows) (clifford_after n (encoded n rows) (word_map w) is.clifford (word_clifford n w))
      (record {
        x = λ q h. ap (λ t. t.0) (word_at n w rows q size is.count h) ∙ under q h X;
        z = λ q h. ap (λ t. t.1) (word_at n w rows q size is.count h) ∙ under q h Z;
      })
      (word_length w rows ∙ is.count)
    where
      word_length : (w : List Letter) (rows : List Pair) → length (after_word w rows) ≡ length rows
      word_length [] rows = refl
      word_length (a ∷ w) [] = refl
      word_length (a ∷ w) (r ∷ rows) = ap suc (word_length w rows)

      word_at : (m : ℕ) (w : List Letter) (rows : List Pair) (q : ℕ) → length w ≡ m → length rows ≡ m → q < m → pair_at n (after_word w rows) q ≡ pair_after (letter_at w q) (pair_at n rows q)
      word_at zero w rows q h k l = absurd (omega arith)
      word_at (suc m) [] rows q h k l = cc
      word_at (suc m) (a ∷ w) [] q h k l = cc
      word_at (suc m) (a ∷ w) (r ∷ rows) zero h k l = refl
      word_at (suc m) (a ∷ w) (r ∷ rows) (suc q) h k l = word_at m w rows q (suc_inj h) (suc_inj k) (omega arith)
