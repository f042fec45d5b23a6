-- The state of a walk: a cursor before an instruction, how many of its steps are behind, and what came before.
-- (This project's own.)
use Rattle.std.specs.Prelude.{◌≡◌, ◌+◌, ℕ, Bool, true, false, List, [], ◌∷◌, length, take}
use Rattle.cursor.specs.declared.cursor.Cursor.{Cursor}
use Rattle.cursor.specs.Moves.{Faces}
use Rattle.cursor.specs.Places.{before_of, left_of}
use Rattle.step_model.specs.declared.chances.ChanceText.{ChanceText}
use Rattle.step_model.specs.Listing.{ListedStep}
use Rattle.step_model.specs.WellFormed.{collapse_count, faults_named, records_made}
use Rattle.stim_lexer.specs.Trees.{Item}
use Rattle.stim_parser.specs.declared.operation.Operation.{Operation}
use Rattle.stim_parser.specs.declared.operation.Operation.TheVariants.{Applies, Measurement, QubitReset, MeasurementReset, ProductMeasurement, PauliError, CorrelatedError}
use Rattle.stim_parser.specs.Probabilities.{Marks, chance_taken}
use Rattle.stim_parser.specs.Verdicts.{Instruction, circuit_table}
use Rattle.circuit_walk.specs.declared.instruction_steps.InstructionSteps.{InstructionSteps}
use Rattle.circuit_walk.specs.declared.step.Counts.{Counts}
use Rattle.circuit_walk.specs.Before.{Before}
use Rattle.circuit_walk.specs.Meaning.{after, at_start, made_of, new_steps}
use Rattle.circuit_walk.specs.private.InstructionSteps.{Stands}

-- whether instructions of an operation make steps, where they have targets
abbrev pub makes_steps : Operation → Bool
makes_steps (Applies g) = true
makes_steps (Measurement l) = true
makes_steps (QubitReset l) = true
makes_steps (MeasurementReset l) = true
makes_steps ProductMeasurement = true
makes_steps (PauliError l) = true
makes_steps CorrelatedError = true
makes_steps operation = false

abbrev pub is_step_maker : Instruction → Bool
is_step_maker i = makes_steps i.operation

-- what came before the instruction behind these
abbrev pub state_after : ℕ → Before → List Instruction → Before
state_after n b [] = b
state_after n b (i ∷ is) = state_after n (after n b i) is

-- the steps that instructions make, on n qubits
abbrev pub steps_of : ℕ → List Instruction → List ListedStep
steps_of n is = made_of n (new_steps n) at_start is

-- the counts of a place among steps
pub record AreCountsAt (steps : List ListedStep) (place : ℕ) (c : Counts) : Type 0 where
  pub records : c.records ≡ length (records_made (take place steps))
  pub collapses : c.collapses ≡ collapse_count (take place steps)
  pub faults : c.faults ≡ length (faults_named (take place steps))

-- the chosen instructions before a cursor, and what came before it
abbrev pub state_at : ℕ → List (Item Instruction) → Cursor → Before
state_at n items cursor = state_after n at_start (before_of is_step_maker items cursor)

-- what came before a place is what these instructions make
pub record IsReady (n : ℕ) (before : List Instruction) (c : Counts) (place : ℕ) : Type 0 where
  pub records : c.records ≡ (state_after n at_start before).records
  pub faults : c.faults ≡ (state_after n at_start before).faults
  pub place_is : place ≡ length (steps_of n before)

-- a place inside the instruction that a cursor is before: behind the first k of its steps, with the number of its probability
-- among these texts
pub record IsInside (n : ℕ) (chances : List ChanceText) (items : List (Item Instruction)) (cursor : Cursor) (s : InstructionSteps) (c : Counts) (place : ℕ) : Type 0 where
  pub instruction : Instruction
  pub rest : List Instruction
  pub k : ℕ
  pub left : left_of is_step_maker items cursor ≡ instruction ∷ rest
  pub faced : Faces is_step_maker items cursor.index
  pub stands : Stands instruction (state_at n items cursor) s c k
  pub marked : Marks chances (chance_taken circuit_table instruction.operation instruction.arguments) s.chance
  pub place_is : place ≡ length (steps_of n (before_of is_step_maker items cursor)) + k

-- a place between instructions, at a cursor
pub record IsBetween (n : ℕ) (items : List (Item Instruction)) (cursor : Cursor) (s : InstructionSteps) (c : Counts) (place : ℕ) : Type 0 where
  pub at : s.at ≡ 0
  pub end : s.end ≡ 0
  pub records : c.records ≡ (state_at n items cursor).records
  pub faults : c.faults ≡ (state_at n items cursor).faults
  pub place_is : place ≡ length (steps_of n (before_of is_step_maker items cursor))
