-- The word that letters at qubits make, also as factors: letter by letter it is applied to a state.
use Rattle.std.proofs.Common.{◌≡◌, ℕ, ◌<◌, true, List, [], ◌∷◌, length, refl, sym, ap, ap₂, subst, ◌∙◌, arith}
use Rattle.std.proofs.lemmas.List.Elements.{All-head, All-map, All-tail}
use Rattle.pauli_word.specs.declared.letter.Letter.{Letter}
use Rattle.pauli_word.specs.Parity.{exclusive_or}
use Rattle.pauli_word.specs.States.{State, applied}
use Rattle.pauli_word.specs.Words.{signed, anticommute, letters_product, lone_letter, no_letters, with_sign_changed}
use Rattle.pauli_word.proofs.LoneLetters.{length-lone_letter}
use Rattle.pauli_word.proofs.Parities.{exclusive_or_assoc}
use Rattle.pauli_word.proofs.WordLaws.{anticommute_comm, anticommute_of_none, anticommute-product}
use Rattle.step_model.specs.declared.step.Term.{Term}
use Rattle.step_model.specs.Listing.{word_of_terms}
use Rattle.step_model.specs.WellFormed.{TermsFit}
use Rattle.step_model.proofs.StepNumbers.{length-word_of_terms}
use Rattle.tableau.specs.Products.{AreWithin, word_of_factors}
use Rattle.forward_sim.specs.private.ProductFactors.{factors_of}
use Rattle.forward_sim.specs.SameRuns.{HoldSame}

-- the first of the letters that are left, and those behind it
module _ (n : ℕ) (left : List Term) (term : Term) (rest : List Term) (first : left ≡ term ∷ rest) where
  pub first_fits : TermsFit n left → term.qubit < n
  first_fits fit = All-head (λ t. t.qubit < n) term rest (subst (TermsFit n) first fit)

  pub rest_fits : TermsFit n left → TermsFit n rest
  rest_fits fit = All-tail (λ t. t.qubit < n) term rest (subst (TermsFit n) first fit)

  pub fewer : length rest < length left
  fewer = omega (arith, ap length first)

-- as factors, letters at qubits make the same word
pub factors_word : (n : ℕ) (terms : List Term) → word_of_factors n (factors_of terms) ≡ word_of_terms n terms
factors_word n [] = refl
factors_word n (term ∷ terms) = ap (letters_product (lone_letter n term.qubit term.letter)) (factors_word n terms)

pub factors_within : (n : ℕ) (terms : List Term) → TermsFit n terms → AreWithin n (factors_of terms)
factors_within n terms fit = All-map (λ (factor : ℕ × Letter). factor.0 < n) (λ (term : Term). (term.qubit, term.letter)) terms fit

-- the word of the letters that are left leads from here to where it all leads
abbrev pub AppliesRest : ℕ → List Term → State → State → Type 0
AppliesRest n left s whole = HoldSame n (applied true (word_of_terms n left) s) whole

pub applied_more : (n : ℕ) (term : Term) (rest : List Term) (s t whole : State) → HoldSame n t (applied true (lone_letter n term.qubit term.letter) s) → AppliesRest n (term ∷ rest) s whole → AppliesRest n rest t whole
applied_more n term rest s t whole one rest_of p size =
    let lone = lone_letter n term.qubit term.letter in
    let behind = word_of_terms n rest in
    let together : exclusive_or (anticommute p.letters lone) (anticommute p.letters behind) ≡ anticommute p.letters (letters_product lone behind) =
    ap₂ exclusive_or (anticommute_comm p.letters lone) (anticommute_comm p.letters behind)
    ∙ sym (anticommute-product lone behind p.letters (length-lone_letter n term.qubit term.letter ∙ sym (length-word_of_terms n rest)))
    ∙ anticommute_comm (letters_product lone behind) p.letters in
    one (with_sign_changed (anticommute p.letters behind) p) size
    ∙ ap (λ sign. s (signed p.letters sign))
    (sym (exclusive_or_assoc (anticommute p.letters lone) (anticommute p.letters behind) p.negative)
    ∙ ap (λ b. exclusive_or b p.negative) together)
    ∙ rest_of p size

pub applied_all : (n : ℕ) (s whole : State) → AppliesRest n [] s whole → HoldSame n s whole
applied_all n s whole rest_of p size =
    sym (ap (λ b. s (with_sign_changed b p)) (anticommute_comm p.letters (no_letters n) ∙ anticommute_of_none n p.letters))
    ∙ rest_of p size
