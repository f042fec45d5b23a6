-- The step at a place of an instruction: what is needed to take it, what it is, and where it leads.
-- (Stim's gate reference, github.com/quantumlib/Stim, doc/gates.md; how steps are handed out is this project's own.)
use Rattle.std.specs.Prelude.{◌≡◌, ◌≤◌, ◌<◌, ◌+◌, ◌^◌, ℕ, Bool, if◌then◌else◌, Some, slice_get}
use Rattle.gate_table.specs.declared.gate.Gate.{Gate}
use Rattle.pauli_word.specs.declared.letter.Letter.{Letter}
use Rattle.stim_parser.specs.declared.operation.Operation.{Operation}
use Rattle.stim_parser.specs.declared.operation.Operation.TheVariants.{Measurement, MeasurementReset}
use Rattle.stim_parser.specs.Verdicts.{Instruction}
use Rattle.circuit_walk.specs.declared.instruction_steps.InstructionSteps.{InstructionSteps}
use Rattle.circuit_walk.specs.declared.letters.Letters.{Letters}
use Rattle.circuit_walk.specs.declared.pairs.PairStep.{PairStep}
use Rattle.circuit_walk.specs.declared.pairs.PairStep.TheVariants as pair
use Rattle.circuit_walk.specs.declared.passes.Inside.{Inside}
use Rattle.circuit_walk.specs.declared.step.Counts.{Counts}
use Rattle.circuit_walk.specs.declared.step.Step.{Step}
use Rattle.circuit_walk.specs.declared.step.Step.TheVariants.{Two, Fault, Feedback}
use Rattle.circuit_walk.specs.declared.taken.Taken.{Taken}
use Rattle.circuit_walk.specs.Before.{Before}
use Rattle.circuit_walk.specs.Meaning.{new_steps}
use Rattle.circuit_walk.specs.Steps.{listed}
use Rattle.circuit_walk.specs.private.InstructionSteps.{AreStepsOf, IsAt, Stands, counts_behind}
use Rattle.circuit_walk.specs.private.Names.{Lends, NamesNext}

-- a step is left at the place of these steps, and the counts behind it fit 32 bits
pub record IsFacing (s : InstructionSteps) (c : Counts) : Type 0 where
  pub instruction : Instruction
  pub before : Before
  pub k : ℕ
  pub stands : Stands instruction before s c k
  pub there : s.at < s.end
  pub records : c.records + 1 < 2 ^ 32
  pub collapses : c.collapses + 1 < 2 ^ 32
  pub faults : c.faults + 1 < 2 ^ 32

-- the step there, and the place and the counts behind it
pub record IsTaken (s : InstructionSteps) (c : Counts) (taken : Taken) : Type 0 where
  pub step : (n k : ℕ) (i : Instruction) (b : Before) → Stands i b s c k → slice_get (new_steps n b i) k ≡ Some (listed n taken.step)
  pub names : NamesNext s c taken.step
  pub letters : (n k : ℕ) (i : Instruction) (b : Before) → Stands i b s c k → Lends n b i k taken.step
  pub place : (k : ℕ) (i : Instruction) → AreStepsOf i s → IsAt i.operation i.targets s.at k → IsAt i.operation i.targets taken.at (k + 1)
  pub within : taken.at ≤ s.end
  pub counts : taken.counts ≡ counts_behind s.operation s.flips c

-- the operation that measures a letter, and then resets where `reset`
abbrev pub measuring : Bool → Letter → Operation
measuring reset letter = if reset then MeasurementReset letter else Measurement letter

-- the step of a pair of this gate
abbrev pub pair_in : Gate → PairStep → Step
pair_in gate (pair.Qubits a b) = Two gate a b
pair_in gate (pair.Fed letter q rec) = Feedback letter q rec

-- the error of these letters at a place
abbrev pub error_of : InstructionSteps → Counts → Letters → Taken
error_of s c letters =
    record {
      step = Fault (record { number = c.faults; chance = s.chance }) letters;
      at = s.at + 1;
      counts = record c { faults = c.faults + 1 };
    }

abbrev pub error_at : Inside → Letters → Taken
error_at inside letters = error_of inside.here inside.counts letters
