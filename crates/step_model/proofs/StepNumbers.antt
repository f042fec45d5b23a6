-- The numbers that the steps of a well-formed program name, counted from the steps before them.
use Rattle.std.proofs.Common.{◌≡◌, ℕ, zero, suc, ◌+◌, true, List, [], ◌∷◌, length, take, None, Some, sym, ap, ◌∙◌, arith}
use Rattle.std.specs.List.{range_with_len}
use Rattle.std.specs.Prelude.{slice_get}
use Rattle.std.proofs.lemmas.Option.{slice_get_within, get_or_from_slice_get}
use Rattle.std.proofs.lemmas.List.{length-replicate}
use Rattle.pauli_word.specs.declared.letter.Letter.TheVariants.{I}
use Rattle.pauli_word.specs.Words.{lone_letter}
use Rattle.pauli_word.proofs.LoneLetters.{length-lone_letter}
use Rattle.pauli_word.proofs.WordLaws.{length-letters_product}
use Rattle.step_model.specs.declared.step.Term.{Term}
use Rattle.step_model.specs.Listing.{Listing, ListedStep, One, Two, Collapse, Fault, Feedback, Measured, Recorded, word_of_terms}
use Rattle.step_model.specs.WellFormed.{IsWellFormed, step_fits, records_made}

-- each step fits
pub fits_at : (program : Listing) (k : ℕ) (step : ListedStep) → IsWellFormed program → slice_get program.steps k ≡ Some step → step_fits program step ≡ true
fits_at program k step well found =
    ap (step_fits program) (sym (get_or_from_slice_get program.steps k step step found))
    ∙ well.steps_fit k step (slice_get_within program.steps k step found)

-- the word that letters at qubits make has the length that is asked
pub length-word_of_terms : (n : ℕ) (terms : List Term) → length (word_of_terms n terms) ≡ n
length-word_of_terms n [] = length-replicate n I
length-word_of_terms n (term ∷ terms) =
    length-letters_product (lone_letter n term.qubit term.letter) (word_of_terms n terms)
    (length-lone_letter n term.qubit term.letter ∙ sym (length-word_of_terms n terms))
    ∙ length-lone_letter n term.qubit term.letter

-- a record's number is how many were made before it
numbered_from : (a n : ℕ) (steps : List ListedStep) (k : ℕ) (m : Measured) (r : Recorded) → records_made steps ≡ range_with_len a n → slice_get steps k ≡ Some (Collapse m (Some r)) → r.number ≡ a + length (records_made (take k steps))
numbered_from a n [] k m r made found = cc
numbered_from a zero (step ∷ steps) zero m r made found =
    let same : step ≡ Collapse m (Some r) = cc in
    let none : records_made (Collapse m (Some r) ∷ steps) ≡ [] = sym (ap (λ s. records_made (s ∷ steps)) same) ∙ made in
    cc
numbered_from a (suc n) (step ∷ steps) zero m r made found =
    let same : step ≡ Collapse m (Some r) = cc in
    let first : r.number ∷ records_made steps ≡ a ∷ range_with_len (a + 1) n = sym (ap (λ s. records_made (s ∷ steps)) same) ∙ made in
    let is : r.number ≡ a = cc in
    omega arith
numbered_from a n (One gate q ∷ steps) (suc k) m r made found = numbered_from a n steps k m r made found
numbered_from a n (Two gate p q ∷ steps) (suc k) m r made found = numbered_from a n steps k m r made found
numbered_from a n (Collapse c None ∷ steps) (suc k) m r made found = numbered_from a n steps k m r made found
numbered_from a zero (Collapse c (Some x) ∷ steps) (suc k) m r made found = cc
numbered_from a (suc n) (Collapse c (Some x) ∷ steps) (suc k) m r made found =
    let rest : records_made steps ≡ range_with_len (a + 1) n = cc in
    omega (arith, numbered_from (a + 1) n steps k m r rest found)
numbered_from a n (Fault f ∷ steps) (suc k) m r made found = numbered_from a n steps k m r made found
numbered_from a n (Feedback w b ∷ steps) (suc k) m r made found = numbered_from a n steps k m r made found

pub record_at : (program : Listing) (k : ℕ) (m : Measured) (r : Recorded) → IsWellFormed program → slice_get program.steps k ≡ Some (Collapse m (Some r)) → r.number ≡ length (records_made (take k program.steps))
record_at program k m r well found = numbered_from 0 program.records program.steps k m r well.records_in_order found ∙ omega arith
