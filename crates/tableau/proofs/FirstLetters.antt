-- A word's first letters with I after them, as loops over qubits build it letter by letter.
use Rattle.std.proofs.Common.{◌≡◌, ◌<◌, ◌≤◌, ◌+◌, ℕ, zero, suc, false, List, [], ◌∷◌, length, set, get_or, refl, ap, ap₂, sym, ◌∙◌, arith, ⊎_elim}
use Rattle.std.proofs.lemmas.Bool.{cases_lt}
use Rattle.std.proofs.lemmas.List.{length-replicate}
use Rattle.gate_table.proofs.WordImageLaws.{letter_at-none}
use Rattle.pauli_word.specs.declared.letter.Letter.{Letter}
use Rattle.pauli_word.specs.declared.letter.Letter.TheVariants.{I}
use Rattle.pauli_word.specs.Letters.{is_minus, letter_product, letter_power, letters_clash}
use Rattle.pauli_word.specs.Words.{signed, product, no_letters, lone_letter, letter_at, HasNoneBetween}
use Rattle.pauli_word.proofs.LetterLaws.{letter_product-I, letter_power-I, letters_clash_comm, letters_clash_of_I}
use Rattle.pauli_word.proofs.LoneLetters.{anticommute-lone_letter, letters_product-lone_letter, letters_power-lone_letter}
use Rattle.pauli_word.proofs.SignedLaws.{product_comm}
use Rattle.pauli_word.proofs.WordLaws.{anticommute_comm}
use Rattle.tableau.specs.private.Encoding.{Pair}
use Rattle.tableau.specs.private.EncodingSteps.{lone, pair_after, first_letters, after_word}

pub length-first : (i : ℕ) (p : List Letter) → length (first_letters i p) ≡ length p
length-first zero p = length-replicate (length p) I
length-first (suc i) [] = refl
length-first (suc i) (a ∷ p) = ap suc (length-first i p)

pub first-all : (i : ℕ) (p : List Letter) → length p ≤ i → first_letters i p ≡ p
first-all zero [] h = refl
first-all zero (a ∷ p) h = absurd (omega arith)
first-all (suc i) [] h = refl
first-all (suc i) (a ∷ p) h = ap (λ q. a ∷ q) (first-all i p (omega arith))

pub first-next : (i : ℕ) (p : List Letter) → letter_at (first_letters i p) i ≡ I
first-next zero p = letter_at-none (length p) 0
first-next (suc i) [] = refl
first-next (suc i) (a ∷ p) = first-next i p

first-more : (i : ℕ) (p : List Letter) → i < length p → set (first_letters i p) i (letter_at p i) ≡ first_letters (suc i) p
first-more i [] h = absurd (omega arith)
first-more zero (a ∷ p) h = refl
first-more (suc i) (a ∷ p) h = ap (λ q. a ∷ q) (first-more i p (omega arith))

pub first-one_more : (i : ℕ) (p : List Letter) → i < length p → set (first_letters i p) i (letter_at p i) ≡ first_letters (i + 1) p
first-one_more i p h = first-more i p h ∙ ap (λ j. first_letters j p) next where
  next : suc i ≡ i + 1
  next = omega arith

-- letters I after the first ones are among them, as well
pub first-skip : (i j : ℕ) (p : List Letter) → i ≤ j → HasNoneBetween p i j → first_letters i p ≡ first_letters j p
first-skip zero zero p h none = refl
first-skip zero (suc j) [] h none = refl
first-skip zero (suc j) (a ∷ p) h none =
    ap₂ (λ b q. b ∷ q) (sym (none 0 (omega arith) (omega arith))) (first-skip zero j p (omega arith) (λ k from below. none (suc k) (omega arith) (omega (arith, below))))
first-skip (suc i) zero p h none = absurd (omega arith)
first-skip (suc i) (suc j) [] h none = refl
first-skip (suc i) (suc j) (a ∷ p) h none =
    ap (λ q. a ∷ q) (first-skip i j p (omega arith) (λ k from below. none (suc k) (omega (arith, from)) (omega (arith, below))))

-- where no letter is left, the first ones are the word
pub first-end : (i : ℕ) (p : List Letter) → HasNoneBetween p i (length p) → first_letters i p ≡ p
first-end i p none =
    ⊎_elim
    (λ (h : i < length p). first-skip i (length p) p (omega arith) none ∙ first-all (length p) p (omega arith))
    (λ (h : length p ≤ i). first-all i p h)
    (cases_lt i (length p))

-- a letter put where a word has I multiplies by it
pub product-lone : (n : ℕ) (w : List Letter) (q : ℕ) (a : Letter) → length w ≡ n → q < n → letter_at w q ≡ I → product (signed w false) (lone n q a) ≡ signed (set w q a) false
product-lone n w q a size within at_q =
    product_comm (signed w false) (lone n q a)
    (anticommute_comm w (lone_letter n q a)
    ∙ (anticommute-lone_letter n w q a size within ∙ (ap (letters_clash a) at_q ∙ (letters_clash_comm a I ∙ letters_clash_of_I a))))
    ∙ ap₂ signed
    (letters_product-lone_letter n w q a size within ∙ (ap (λ b. set w q (letter_product a b)) at_q ∙ ap (set w q) (letter_product-I a)))
    (ap is_minus (letters_power-lone_letter n w q a size within ∙ (ap (letter_power a) at_q ∙ letter_power-I a)))

-- ---- letters applied
pub after_no_letters : (m : ℕ) (rows : List Pair) → after_word (no_letters m) rows ≡ rows
after_no_letters zero rows = refl
after_no_letters (suc m) [] = refl
after_no_letters (suc m) (r ∷ rows) = ap (λ l. r ∷ l) (after_no_letters m rows)

-- one letter more, at the pair that has stood so far
pub after_word-set : (w : List Letter) (rows : List Pair) (i : ℕ) (a : Letter) (r : Pair) → i < length w → letter_at w i ≡ I → r ≡ get_or (after_word w rows) i r → set (after_word w rows) i (pair_after a r) ≡ after_word (set w i a) rows
after_word-set [] rows i a r h e at = absurd (omega arith)
after_word-set (b ∷ w) [] zero a r h e at = refl
after_word-set (b ∷ w) [] (suc i) a r h e at = refl
after_word-set (b ∷ w) (s ∷ rows) zero a r h e at =
    ap (λ t. pair_after a t ∷ after_word w rows) (at ∙ ap (λ t. pair_after t s) e)
after_word-set (b ∷ w) (s ∷ rows) (suc i) a r h e at = ap (λ l. pair_after b s ∷ l) (after_word-set w rows i a r (omega arith) e at)

-- a turn of the loop that applies letters
pub letter_applied : (w : List Letter) (rows so_far : List Pair) (i : ℕ) → i < length w → so_far ≡ after_word (first_letters i w) rows → (r : Pair) → r ≡ get_or so_far i r → (a : Letter) → a ≡ letter_at w i → (new : Pair) → new ≡ pair_after a r → set so_far i new ≡ after_word (first_letters (i + 1) w) rows
letter_applied w rows so_far i h e r r_is a a_is new new_is =
    let first = first_letters i w in
    ap₂ (λ l t. set l i t) e new_is
    ∙ (after_word-set first rows i a r (omega (arith, length-first i w)) (first-next i w) (r_is ∙ ap (λ l. get_or l i r) e)
    ∙ ap (λ l. after_word l rows) (ap (set first i) a_is ∙ first-one_more i w h))
