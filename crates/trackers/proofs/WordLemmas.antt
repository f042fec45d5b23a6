-- A word beside the product of letters at qubits.
use Rattle.std.proofs.Common.{◌≡◌, ℕ, suc, ◌<◌, Bool, false, List, [], ◌∷◌, ◌++◌, length, get_or, refl, ap, sym, ◌∙◌, arith}
use Rattle.std.specs.Prelude.{All}
use Rattle.std.proofs.lemmas.List.Elements.{All-get_or}
use Rattle.pauli_word.specs.declared.letter.Letter.{Letter}
use Rattle.pauli_word.specs.declared.letter.Letter.TheVariants.{I}
use Rattle.pauli_word.specs.Letters.{letters_clash}
use Rattle.pauli_word.specs.Parity.{exclusive_or}
use Rattle.pauli_word.specs.Words.{anticommute, letter_at, lone_letter, no_letters}
use Rattle.pauli_word.proofs.Parities.{exclusive_or_assoc}
use Rattle.pauli_word.proofs.WordLaws.{letters_product_comm, anticommute_comm, anticommute_of_none, anticommute-product}
use Rattle.step_model.specs.declared.step.Term.{Term}
use Rattle.step_model.specs.Listing.{word_of_terms}
use Rattle.pauli_word.proofs.LoneLetters.{length-lone_letter, anticommute-lone_letter, letters_product_of_no_letters}
use Rattle.step_model.proofs.StepNumbers.{length-word_of_terms}

abbrev pub no_term : Term
no_term = record { qubit = 0; letter = I }

pub term_below : (terms : List Term) (n i : ℕ) → All (λ term. term.qubit < n) terms → i < length terms → (get_or terms i no_term).qubit < n
term_below terms n i all within = All-get_or (λ term. term.qubit < n) terms i no_term within all

-- one term more: it clashes with the letter at its qubit alone
pub anticommute-term : (w : List Letter) (term : Term) (terms : List Term) → term.qubit < length w → anticommute w (word_of_terms (length w) (term ∷ terms)) ≡ exclusive_or (letters_clash term.letter (letter_at w term.qubit)) (anticommute w (word_of_terms (length w) terms))
anticommute-term w term terms h =
    anticommute_comm w (word_of_terms (length w) (term ∷ terms))
    ∙ anticommute-product (lone_letter (length w) term.qubit term.letter) (word_of_terms (length w) terms) w
    (length-lone_letter (length w) term.qubit term.letter ∙ sym (length-word_of_terms (length w) terms))
    ∙ ap (λ x. exclusive_or x (anticommute (word_of_terms (length w) terms) w)) (anticommute-lone_letter (length w) w term.qubit term.letter refl h)
    ∙ ap (exclusive_or (letters_clash term.letter (letter_at w term.qubit))) (anticommute_comm (word_of_terms (length w) terms) w)

-- a lone letter as a product of terms
pub word_of_one_term : (n : ℕ) (term : Term) → word_of_terms n (term ∷ []) ≡ lone_letter n term.qubit term.letter
word_of_one_term n term =
    letters_product_comm (lone_letter n term.qubit term.letter) (no_letters n)
    ∙ letters_product_of_no_letters n (lone_letter n term.qubit term.letter) (length-lone_letter n term.qubit term.letter)

pub one_term : (n : ℕ) (w : List Letter) (term : Term) → length w ≡ n → term.qubit < n → anticommute w (word_of_terms n (term ∷ [])) ≡ letters_clash term.letter (letter_at w term.qubit)
one_term n w term h k =
    ap (anticommute w) (word_of_one_term n term)
    ∙ (anticommute_comm w (lone_letter n term.qubit term.letter) ∙ anticommute-lone_letter n w term.qubit term.letter h k)

-- two lists of terms, one behind the other
pub anticommute-terms : (w : List Letter) (front back : List Term) → All (λ term. term.qubit < length w) front → anticommute w (word_of_terms (length w) (front ++ back)) ≡ exclusive_or (anticommute w (word_of_terms (length w) front)) (anticommute w (word_of_terms (length w) back))
anticommute-terms w [] back h = ap (λ odd. exclusive_or odd (anticommute w (word_of_terms (length w) back))) (sym none)
  where
    none : anticommute w (word_of_terms (length w) []) ≡ false
    none = anticommute_comm w (no_letters (length w)) ∙ anticommute_of_none (length w) w
anticommute-terms w (term ∷ front) back h =
    anticommute-term w term (front ++ back) first
    ∙ (ap (exclusive_or odd) (anticommute-terms w front back (λ i d lt. h (suc i) d (omega (arith, lt))))
    ∙ (sym (exclusive_or_assoc odd (anticommute w (word_of_terms (length w) front)) (anticommute w (word_of_terms (length w) back)))
    ∙ ap (λ all. exclusive_or all (anticommute w (word_of_terms (length w) back))) (sym (anticommute-term w term front first))))
  where
    odd : Bool
    odd = letters_clash term.letter (letter_at w term.qubit)

    first : term.qubit < length w
    first = h 0 term (omega arith)
