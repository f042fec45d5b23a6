-- Which rows anticommute with a code whose letter at the pivot is taken out: the letters of the word measured and those at
-- the pivot tell it.
use Rattle.std.proofs.Common.{◌≡◌, ◌<◌, ℕ, Bool, true, false, List, length, set, get_or, refl, ap, ap₂, sym, subst, ◌∙◌, get_or-set_same, set-set}
use Rattle.pauli_word.specs.declared.letter.Letter.{Letter}
use Rattle.pauli_word.specs.declared.letter.Letter.TheVariants.{I, X, Z}
use Rattle.pauli_word.specs.Letters.{letters_clash}
use Rattle.pauli_word.specs.Parity.{exclusive_or}
use Rattle.pauli_word.specs.Words.{Signed, signed, with_sign_changed, anticommute, product, letter_at}
use Rattle.pauli_word.proofs.LetterLaws.{letters_clash_comm, letters_clash_of_I}
use Rattle.pauli_word.proofs.LoneLetters.{length-lone_letter, anticommute-lone_letter}
use Rattle.pauli_word.proofs.WordPlaces.{anticommute_at}
use Rattle.tableau.specs.private.Encoding.{Pair, pair_at, word_of, IsTableau}
use Rattle.tableau.specs.private.EncodingSteps.{lone, code_of, without, ClashesAt, TurnsAt}
use Rattle.tableau.proofs.PairWords.{pair_read}
use Rattle.tableau.proofs.RowMaps.{row_encoded, word_of_size}
use Rattle.tableau.proofs.Turns.{clash_comm, clash_right}

taken_out : (a b : Bool) → b ≡ exclusive_or (exclusive_or a b) a
taken_out false false = refl
taken_out false true = refl
taken_out true false = refl
taken_out true true = refl

-- with I in the place of a word's letter, the clash there is left out
cleared_clash : (p q : List Letter) (k : ℕ) → k < length q → anticommute p (set q k I) ≡ exclusive_or (anticommute p q) (letters_clash (letter_at p k) (letter_at q k))
cleared_clash p q k h =
    let rest = anticommute (set p k I) (set q k I) in
    anticommute_at p (set q k I) k
    ∙ (ap₂ exclusive_or
    (ap (letters_clash (letter_at p k)) (get_or-set_same q k I I h) ∙ (letters_clash_comm (letter_at p k) I ∙ letters_clash_of_I (letter_at p k)))
    (ap (anticommute (set p k I)) (set-set q k I I))
    ∙ (taken_out (letters_clash (letter_at p k) (letter_at q k)) rest
    ∙ ap (λ t. exclusive_or t (letters_clash (letter_at p k) (letter_at q k))) (sym (anticommute_at p q k))))

module _ (rows : List Pair) (is : IsTableau (length rows) rows) (w : List Letter) (size : length w ≡ length rows) where
  abbrev n : ℕ
  n = length rows

  -- a row anticommutes with the code of a word where its letter clashes with the word's at its qubit
  code_clash : (q : ℕ) → q < n → (b : Letter) → anticommute (word_of n (pair_at n rows q) b).letters (code_of n rows w).letters ≡ letters_clash b (letter_at w q)
  code_clash q h b =
      ap (λ v. anticommute v.letters (code_of n rows w).letters) (sym (row_encoded n rows is q b h))
      ∙ (is.clifford.keeps.anticommuting (lone n q b) (signed w false) (length-lone_letter n q b) size
      ∙ anticommute-lone_letter n w q b size h)

  -- and with Z at k times that code where either it has X or Y at k, or its letter clashes, but not both
  pub turns_told : (code : Signed) → code ≡ code_of n rows w → (k : ℕ) → k < n → (coin : Bool) (turn : Signed) → turn ≡ product (lone n k Z) (with_sign_changed coin code) → (m : ℕ) → m ≡ n → (q : ℕ) → q < n → TurnsAt (letter_at w q) k turn (pair_at m rows q)
  turns_told code code_is k inside coin turn turn_is m m_is q h =
      subst (λ s. TurnsAt (letter_at w q) k turn (pair_at s rows q)) (sym m_is) (record { x = told X; z = told Z })
    where
      told : (b : Letter) → anticommute (word_of n (pair_at n rows q) b).letters turn.letters ≡ exclusive_or (letters_clash (letter_at (word_of n (pair_at n rows q) b).letters k) Z) (letters_clash b (letter_at w q))
      told b =
          let v = word_of n (pair_at n rows q) b in
          let v_size : length v.letters ≡ n = word_of_size n (pair_at n rows q) b (is.x_size q h) (is.z_size q h) in
          let code_size : length code.letters ≡ n = ap (λ c. length c.letters) code_is ∙ is.clifford.keeps.size (signed w false) size in
          ap (λ u. anticommute v.letters u.letters) turn_is
          ∙ (clash_right n v (lone n k Z) (with_sign_changed coin code) (length-lone_letter n k Z) code_size
          ∙ ap₂ exclusive_or
          (clash_comm v (lone n k Z) ∙ (anticommute-lone_letter n v.letters k Z v_size inside ∙ letters_clash_comm Z (letter_at v.letters k)))
          (ap (λ u. anticommute v.letters u.letters) code_is ∙ code_clash q h b))

  pub clashes_told : (code : Signed) → code ≡ code_of n rows w → (k : ℕ) → k < length code.letters → (a : Letter) → a ≡ letter_at code.letters k → (coin : Bool) (y : Signed) → y ≡ without k (with_sign_changed coin code) → (m : ℕ) → m ≡ n → (q : ℕ) → q < n → ClashesAt (letter_at w q) a k y (pair_at m rows q)
  clashes_told code code_is k inside a a_is coin y y_is m m_is q h =
      subst (λ s. ClashesAt (letter_at w q) a k y (pair_at s rows q)) (sym m_is) (record { x = told X; z = told Z })
    where
      told : (b : Letter) → anticommute (word_of n (pair_at n rows q) b).letters y.letters ≡ exclusive_or (letters_clash b (letter_at w q)) (letters_clash (letter_at (word_of n (pair_at n rows q) b).letters k) a)
      told b =
          let v = word_of n (pair_at n rows q) b in
          ap (λ u. anticommute v.letters u.letters) y_is
          ∙ (cleared_clash v.letters code.letters k inside
          ∙ ap₂ exclusive_or
          (ap (λ u. anticommute v.letters u.letters) code_is ∙ code_clash q h b)
          (ap (letters_clash (letter_at v.letters k)) (sym a_is)))

-- the same of a pair as it was read
pub clashes_read : (m : ℕ) (rows : List Pair) (q : ℕ) (r : Pair) → q < length rows → r ≡ get_or rows q r → (w b a : Letter) → b ≡ w → (k : ℕ) (y : Signed) → ClashesAt w a k y (pair_at m rows q) → ClashesAt b a k y r
clashes_read m rows q r h r_is w b a b_is k y told =
    subst (λ t. ClashesAt t a k y r) (sym b_is) (subst (ClashesAt w a k y) (sym (pair_read m rows q r h r_is)) told)

-- the same of a turn
pub turns_read : (m : ℕ) (rows : List Pair) (q : ℕ) (r : Pair) → q < length rows → r ≡ get_or rows q r → (w b : Letter) → b ≡ w → (k : ℕ) (turn : Signed) → TurnsAt w k turn (pair_at m rows q) → TurnsAt b k turn r
turns_read m rows q r h r_is w b b_is k turn told =
    subst (λ t. TurnsAt t k turn r) (sym b_is) (subst (TurnsAt w k turn) (sym (pair_read m rows q r h r_is)) told)
