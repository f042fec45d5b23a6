-- What the steps of a program name exists: qubits, a gate of its arity, a letter other than I, records, products, and faults,
-- each with the number of its probability; and the letters that a step lends are those that its program lists there.
-- (Stim's circuit format, github.com/quantumlib/Stim, doc/file_format_stim_circuit.md; how it is handed out is this project's own.)
use Rattle.std.specs.Prelude.{⊤, ◌≡◌, ◌≢◌, ◌<◌, ℕ, length, Option, None, Some}
use Rattle.gate_table.specs.Images.{arity_of}
use Rattle.pauli_word.specs.declared.letter.Letter.TheVariants.{I}
use Rattle.step_model.specs.Chances.{chance_at}
use Rattle.step_model.specs.Listing.{Applies, Flips, effect_at, fault_at}
use Rattle.step_model.specs.WellFormed.{ProductFits, TermsFit}
use Rattle.circuit_walk.specs.declared.step.FaultName.{FaultName}
use Rattle.circuit_walk.specs.declared.step.Step.{Step}
use Rattle.circuit_walk.specs.declared.step.Step.TheVariants.{One, Two, Collapse, CollapseWord, Fault, Feedback}
use Rattle.circuit_walk.specs.Letters.{AreSmall, letters_in}
use Rattle.circuit_walk.specs.Programs.{KeptProgram}

-- a fault exists, and the probability of its name has its text and its bound
pub record IsNamed (program : KeptProgram) (name : FaultName) : Type 0 where
  pub number : name.number < length program.listing.faults
  pub chance : name.chance < length program.chances
  pub text : (fault_at program.listing name.number).text ≡ (chance_at program.chances name.chance).text
  pub bound : (fault_at program.listing name.number).bound ≡ (chance_at program.chances name.chance).bound

-- and it flips this record
pub record IsFlip (program : KeptProgram) (r : ℕ) (name : FaultName) : Type 0 where
  pub named : IsNamed program name
  pub flips : effect_at program.listing name.number ≡ Flips r

-- so it is of the fault of a collapse (the projective measurement inside a measurement or a reset), where there is one: only
-- a record is flipped
abbrev pub IsNamedFlip : KeptProgram → Option ℕ → Option FaultName → Type 0
IsNamedFlip program rec None = ⊤
IsNamedFlip program None (Some name) = ⊥
IsNamedFlip program (Some r) (Some name) = IsFlip program r name

-- a record, where there is one, is the program's
abbrev pub IsRecord : KeptProgram → Option ℕ → Type 0
IsRecord program None = ⊤
IsRecord program (Some r) = r < program.listing.records

-- all that a step names exists
abbrev pub IsStepOf : KeptProgram → Step → Type 0
IsStepOf program (One gate q) = (arity_of gate ≡ 1) × (q < program.listing.qubits)
IsStepOf program (Two gate a b) = (arity_of gate ≡ 2) × (a < program.listing.qubits) × (b < program.listing.qubits) × (a ≢ b)
IsStepOf program (Collapse letter q rec reset inverted flip) =
    (letter ≢ I) × (q < program.listing.qubits) × IsRecord program rec × IsNamedFlip program rec flip
IsStepOf program (CollapseWord letters rec inverted flip) =
    AreSmall letters × ProductFits program.listing.qubits (letters_in letters) × IsRecord program rec × IsNamedFlip program rec flip
IsStepOf program (Fault name letters) =
    IsNamed program name
    × (effect_at program.listing name.number ≡ Applies (letters_in letters))
    × AreSmall letters
    × TermsFit program.listing.qubits (letters_in letters)
IsStepOf program (Feedback letter q r) = (letter ≢ I) × (q < program.listing.qubits) × (r < program.listing.records)
