-- Words other than the identity: a letter at a qubit, and a product whose first letter stands apart from the others.
use Rattle.std.proofs.Common.{◌≡◌, ◌≢◌, ℕ, zero, suc, ◌<◌, ◌==◌, true, false, not, ◌||◌, List, [], ◌∷◌, length, set, refl, sym, ap, ◌∙◌, arith}
use Rattle.std.specs.List.{list_any}
use Rattle.std.specs.Prelude.{All}
use Rattle.std.proofs.lemmas.Bool.{and_from, eq-eqb, or_right}
use Rattle.std.proofs.lemmas.List.{get_or-set_other}
use Rattle.std.proofs.lemmas.List.Elements.{recursion_from_All, All-from_recursion}
use Rattle.pauli_word.specs.declared.letter.Letter.{Letter}
use Rattle.pauli_word.specs.declared.letter.Letter.TheVariants.{I}
use Rattle.pauli_word.specs.Letters.{letter_product}
use Rattle.pauli_word.specs.Words.{lone_letter, no_letters, letter_at, letters_product}
use Rattle.pauli_word.proofs.LetterLaws.{letter_product-I}
use Rattle.pauli_word.proofs.LoneLetters.{length-lone_letter, letters_product-lone_letter}
use Rattle.step_model.specs.declared.step.Term.{Term}
use Rattle.step_model.specs.Listing.{word_of_terms, is_I}
use Rattle.step_model.specs.WellFormed.{TermsFit, word_fits}
use Rattle.step_model.proofs.StepNumbers.{length-word_of_terms}

-- ---- one letter

some_letter : (n q : ℕ) (a : Letter) → is_I a ≡ false → q < n → list_any (λ b. not (is_I b)) (lone_letter n q a) ≡ true
some_letter zero q a h k = absurd (omega arith)
some_letter (suc n) zero a h k = ap (λ b. not b || list_any (λ b. not (is_I b)) (no_letters n)) h
some_letter (suc n) (suc q) a h k = some_letter n q a h (omega arith)

pub lone_fits : (n q : ℕ) (a : Letter) → is_I a ≡ false → q < n → word_fits n (lone_letter n q a) ≡ true
lone_fits n q a letter below =
    and_from (length (lone_letter n q a) == n) (list_any (λ b. not (is_I b)) (lone_letter n q a))
    (eq-eqb (length (lone_letter n q a)) n (length-lone_letter n q a))
    (some_letter n q a letter below)

-- ---- a product

-- the first of some letters is not I, and no other is at its qubit
pub record StandsApart (first : Term) (others : List Term) : Type 0 where
  pub letter : is_I first.letter ≡ false
  pub alone : All (λ term. term.qubit ≢ first.qubit) others

-- so it is of the first letter of a list
abbrev pub BeginsApart : List Term → Type 0
BeginsApart [] = ⊥
BeginsApart (first ∷ others) = StandsApart first others

-- a list that has a letter other than I somewhere
some_set : (w : List Letter) (q : ℕ) (a : Letter) → q < length w → is_I a ≡ false → list_any (λ b. not (is_I b)) (set w q a) ≡ true
some_set [] q a h k = absurd (omega arith)
some_set (b ∷ w) zero a h k = ap (λ x. not x || list_any (λ b. not (is_I b)) w) k
some_set (b ∷ w) (suc q) a h k = or_right (not (is_I b)) (list_any (λ b. not (is_I b)) (set w q a)) (some_set w q a (omega arith) k)

none_at : (n q : ℕ) → letter_at (no_letters n) q ≡ I
none_at zero q = refl
none_at (suc n) zero = refl
none_at (suc n) (suc q) = none_at n q

-- a word has I where no letter was put
untouched : (n q : ℕ) (terms : List Term) → TermsFit n terms → All (λ term. term.qubit ≢ q) terms → letter_at (word_of_terms n terms) q ≡ I
untouched n q [] fits apart = none_at n q
untouched n q (t ∷ terms) fits apart =
    let w = word_of_terms n terms in
    let fit = recursion_from_All (λ (term : Term). term.qubit < n) (t ∷ terms) fits in
    let away = recursion_from_All (λ (term : Term). term.qubit ≢ q) (t ∷ terms) apart in
    ap (λ (v : List Letter). letter_at v q) (letters_product-lone_letter n w t.qubit t.letter (length-word_of_terms n terms) fit.0)
    ∙ get_or-set_other w t.qubit q (letter_product t.letter (letter_at w t.qubit)) I (λ e. away.0 (sym e))
    ∙ untouched n q terms (All-from_recursion (λ (term : Term). term.qubit < n) terms fit.1) (All-from_recursion (λ (term : Term). term.qubit ≢ q) terms away.1)

pub product_fits : (n : ℕ) (terms : List Term) → TermsFit n terms → BeginsApart terms → word_fits n (word_of_terms n terms) ≡ true
product_fits n [] fits apart = absurd apart
product_fits n (t ∷ terms) fits apart =
    let w = word_of_terms n terms in
    let fit = recursion_from_All (λ (term : Term). term.qubit < n) (t ∷ terms) fits in
    let rest : TermsFit n terms = All-from_recursion (λ (term : Term). term.qubit < n) terms fit.1 in
    let word_is : letters_product (lone_letter n t.qubit t.letter) w ≡ set w t.qubit t.letter =
    letters_product-lone_letter n w t.qubit t.letter (length-word_of_terms n terms) fit.0
    ∙ ap (λ b. set w t.qubit (letter_product t.letter b)) (untouched n t.qubit terms rest apart.alone)
    ∙ ap (set w t.qubit) (letter_product-I t.letter) in
    let within : t.qubit < length w = omega (arith, length-word_of_terms n terms, fit.0) in
    and_from (length (word_of_terms n (t ∷ terms)) == n) (list_any (λ b. not (is_I b)) (word_of_terms n (t ∷ terms)))
    (eq-eqb (length (word_of_terms n (t ∷ terms))) n (length-word_of_terms n (t ∷ terms)))
    (ap (λ (v : List Letter). list_any (λ b. not (is_I b)) v) word_is ∙ some_set w t.qubit t.letter within apart.letter)
