-- A product of letters at qubits, letter by letter.
use Rattle.std.proofs.Common.{◌≡◌, ℕ, ◌<◌, Bool, true, false, List, [], ◌∷◌, length, refl, sym, ap, ap₂, ◌∙◌}
use Rattle.std.specs.Prelude.{not}
use Rattle.std.specs.Bool.{beq}
use Rattle.pauli_word.specs.declared.letter.Letter.{Letter}
use Rattle.pauli_word.specs.Letters.{letters_clash}
use Rattle.pauli_word.specs.Parity.{exclusive_or}
use Rattle.pauli_word.specs.Words.{anticommute, letter_at, lone_letter, letters_product, no_letters}
use Rattle.pauli_word.proofs.LoneLetters.{length-lone_letter, letters_product_of_no_letters}
use Rattle.pauli_word.proofs.WordLaws.{letters_product_assoc, letters_product_comm, anticommute_comm, anticommute-product}
use Rattle.step_model.specs.declared.step.Term.{Term}
use Rattle.step_model.specs.Listing.{word_of_terms}
use Rattle.step_model.proofs.StepNumbers.{length-word_of_terms}
use Rattle.run_laws.proofs.ShiftWords.{anticommute-lone}

-- a word meets the first letter, and then those that are left
pub anticommute-term : (n : ℕ) (w : List Letter) (term : Term) (terms : List Term) → length w ≡ n → term.qubit < n
    → anticommute w (word_of_terms n (term ∷ terms)) ≡ exclusive_or (letters_clash (letter_at w term.qubit) term.letter) (anticommute w (word_of_terms n terms))
anticommute-term n w term terms size inside =
    let lone = lone_letter n term.qubit term.letter in
    let rest = word_of_terms n terms in
    anticommute_comm w (letters_product lone rest)
    ∙ (anticommute-product lone rest w (length-lone_letter n term.qubit term.letter ∙ sym (length-word_of_terms n terms))
    ∙ ap₂ exclusive_or
    (anticommute_comm lone w ∙ anticommute-lone w n term.qubit term.letter size inside)
    (anticommute_comm rest w))

-- the word so far, times that of the letters that are left, is the word of all
abbrev pub IsProductSoFar : ℕ → List Term → List Term → List Letter → Type 0
IsProductSoFar n left terms w = letters_product w (word_of_terms n left) ≡ word_of_terms n terms

pub product_none : (n : ℕ) (terms : List Term) → IsProductSoFar n terms terms (no_letters n)
product_none n terms = letters_product_of_no_letters n (word_of_terms n terms) (length-word_of_terms n terms)

pub product_all : (n : ℕ) (terms : List Term) (w : List Letter) → length w ≡ n → IsProductSoFar n [] terms w → w ≡ word_of_terms n terms
product_all n terms w size so_far =
    sym (letters_product_comm w (no_letters n) ∙ letters_product_of_no_letters n w size) ∙ so_far

-- the first letter goes from the word that is left into the word so far
pub product_on : (n : ℕ) (term : Term) (rest terms : List Term) (w : List Letter) → IsProductSoFar n (term ∷ rest) terms w
    → IsProductSoFar n rest terms (letters_product (lone_letter n term.qubit term.letter) w)
product_on n term rest terms w so_far =
    let lone = lone_letter n term.qubit term.letter in
    ap (λ v. letters_product v (word_of_terms n rest)) (letters_product_comm lone w)
    ∙ letters_product_assoc w lone (word_of_terms n rest)
    ∙ so_far

-- a parity that is turned where there is a clash
pub turned : (odd clash rest : Bool) → exclusive_or (not (beq odd clash)) rest ≡ exclusive_or odd (exclusive_or clash rest)
turned false false rest = refl
turned false true rest = refl
turned true false false = refl
turned true false true = refl
turned true true false = refl
turned true true true = refl
