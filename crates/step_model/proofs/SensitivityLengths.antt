-- A sensitivity has a letter for each qubit.
use Rattle.std.proofs.Common.{◌≡◌, ℕ, suc, Bool, true, false, List, [], ◌∷◌, length, sym, ◌∙◌, arith, length-set}
use Rattle.std.specs.List.{AllPass}
use Rattle.std.proofs.lemmas.List.{length-replicate}
use Rattle.pauli_word.specs.declared.letter.Letter.{Letter}
use Rattle.pauli_word.specs.declared.letter.Letter.TheVariants.{I}
use Rattle.pauli_word.specs.Words.{signed}
use Rattle.pauli_word.proofs.WordLaws.{length-letters_product}
use Rattle.gate_table.specs.Images.{inverse_of}
use Rattle.gate_table.proofs.WordImageLaws.{length-image_at}
use Rattle.gate_table.proofs.PairImageLaws.{length-image_at_two}
use Rattle.step_model.specs.Listing.{Listing, ListedStep, One, Two, Collapse, Fault, Feedback, Measured, Word, Reset, measured_word}
use Rattle.step_model.specs.Sensitivities.{Sensitivity, sensitivity, sensitivity_before, cleared, multiplied, record_counts}
use Rattle.step_model.specs.WellFormed.{step_fits}
use Rattle.step_model.proofs.StateIsGroup.{length-measured}

pub length-cleared : (n : ℕ) (c : Measured) (w : List Letter) → length w ≡ n → length (cleared c w) ≡ n
length-cleared n (Word v) w size = size
length-cleared n (Reset letter q) w size = length-set w q I ∙ size

pub length-multiplied : (n : ℕ) (b : Bool) (v w : List Letter) → length v ≡ n → length w ≡ n → length (multiplied b v w) ≡ n
length-multiplied n true v w size size' = length-letters_product v w (size ∙ sym size') ∙ size
length-multiplied n false v w size size' = size'

length-before : (program : Listing) (step : ListedStep) (s : Sensitivity) → step_fits program step ≡ true → length s.word ≡ program.qubits → length (sensitivity_before program.qubits step s).word ≡ program.qubits
length-before program (One gate q) s fits h = length-image_at (inverse_of gate) q (signed s.word false) ∙ h
length-before program (Two gate a b) s fits h = length-image_at_two (inverse_of gate) a b (signed s.word false) ∙ h
length-before program (Collapse c r) s fits h =
    length-multiplied program.qubits (record_counts s.records r) (measured_word program.qubits c) (cleared c s.word)
    (length-measured program c r fits) (length-cleared program.qubits c s.word h)
length-before program (Fault f) s fits h = h
length-before program (Feedback w r) s fits h = h

pub length-sensitivity : (program : Listing) (named : List ℕ) (steps : List ListedStep) → AllPass (step_fits program) steps → length (sensitivity program.qubits named steps).word ≡ program.qubits
length-sensitivity program named [] fits = length-replicate program.qubits I
length-sensitivity program named (step ∷ steps) fits =
    length-before program step (sensitivity program.qubits named steps) (fits 0 step (omega arith))
    (length-sensitivity program named steps (λ j d h. fits (suc j) d (omega (arith, h))))
