-- A step as a walk hands it out, and what the program lists of it.
-- (Stim's circuit format, github.com/quantumlib/Stim, doc/file_format_stim_circuit.md; how it is handed out is this project's own.)
use Rattle.std.specs.Prelude.{ℕ, Bool, if◌then◌else◌, Option, None, Some, option_map}
use Rattle.pauli_word.specs.declared.letter.Letter.{Letter}
use Rattle.pauli_word.specs.Words.{lone_letter}
use Rattle.step_model.specs.Listing.{ListedStep, Measured, Recorded, word_of_terms}
use Rattle.step_model.specs.Listing as listing
use Rattle.circuit_walk.specs.declared.step.FaultName.{FaultName}
use Rattle.circuit_walk.specs.declared.step.Step.{Step}
use Rattle.circuit_walk.specs.declared.step.Step.TheVariants as step
use Rattle.circuit_walk.specs.Letters.{letters_in}

-- what a collapse of a letter at a qubit measures
abbrev pub measured : ℕ → Bool → Letter → ℕ → Measured
measured n reset letter q = if reset then listing.Reset letter q else listing.Word (lone_letter n q letter)

-- the number of a fault
abbrev pub number_of : FaultName → ℕ
number_of name = name.number

-- what becomes of an outcome, where it has a record
abbrev pub recorded : Option ℕ → Bool → Option FaultName → Option Recorded
recorded None inverted flip = None
recorded (Some r) inverted flip = Some (record { number = r; inverted = inverted; flip = option_map number_of flip })

-- a step as the program lists it, on n qubits
abbrev pub listed : ℕ → Step → ListedStep
listed n (step.One gate q) = listing.One gate q
listed n (step.Two gate a b) = listing.Two gate a b
listed n (step.Collapse letter q rec reset inverted flip) =
    listing.Collapse (measured n reset letter q) (recorded rec inverted flip)
listed n (step.CollapseWord letters rec inverted flip) =
    listing.Collapse (listing.Word (word_of_terms n (letters_in letters))) (recorded rec inverted flip)
listed n (step.Fault name letters) = listing.Fault name.number
listed n (step.Feedback letter q r) = listing.Feedback (lone_letter n q letter) r
