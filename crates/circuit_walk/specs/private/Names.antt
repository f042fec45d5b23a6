-- What a step names and lends beside what a program lists of it: a fault is the next one, with the probability of its
-- instruction, and the letters are those that the instruction has at the step's place.
-- (How steps are handed out is this project's own.)
use Rattle.std.specs.Prelude.{⊤, ◌≡◌, ◌<◌, ℕ, List, length, map, [], Option, None, Some, slice_get, slice_index_or}
use Rattle.step_model.specs.Listing.{Applies}
use Rattle.stim_parser.specs.declared.operation.Operation.TheVariants.{ProductMeasurement}
use Rattle.stim_parser.specs.Limits.{products_of}
use Rattle.stim_parser.specs.declared.operation.Operation.{Operation}
use Rattle.stim_parser.specs.declared.target.Target.{Target}
use Rattle.stim_parser.specs.Circuits.{Fits}
use Rattle.stim_parser.specs.Verdicts.{Instruction}
use Rattle.circuit_walk.specs.declared.instruction_steps.InstructionSteps.{InstructionSteps}
use Rattle.circuit_walk.specs.declared.letters.Letters.{Letters}
use Rattle.circuit_walk.specs.declared.step.Counts.{Counts}
use Rattle.circuit_walk.specs.declared.step.FaultName.{FaultName}
use Rattle.circuit_walk.specs.declared.step.Step.{Step}
use Rattle.circuit_walk.specs.declared.step.Step.TheVariants.{Collapse, CollapseWord, Fault}
use Rattle.circuit_walk.specs.Before.{Before}
use Rattle.circuit_walk.specs.FaultsMade.{fault_with}
use Rattle.circuit_walk.specs.Letters.{AreSmall, letters_in}
use Rattle.circuit_walk.specs.Meaning.{new_faults}
use Rattle.circuit_walk.specs.Targets.{term_of}

-- ---- faults

-- the fault behind these counts, with the probability of these steps
pub record IsNext (s : InstructionSteps) (c : Counts) (name : FaultName) : Type 0 where
  pub number : name.number ≡ c.faults
  pub chance : name.chance ≡ s.chance

-- so is the one that flips a record, where there is one
abbrev pub IsNextFlip : InstructionSteps → Counts → Option ℕ → Option FaultName → Type 0
IsNextFlip s c rec None = ⊤
IsNextFlip s c None (Some name) = ⊥
IsNextFlip s c (Some r) (Some name) = IsNext s c name

abbrev pub NamesNext : InstructionSteps → Counts → Step → Type 0
NamesNext s c (Collapse letter q rec reset inverted flip) = IsNextFlip s c rec flip
NamesNext s c (CollapseWord letters rec inverted flip) = IsNextFlip s c rec flip
NamesNext s c (Fault name letters) = IsNext s c name
NamesNext s c step = ⊤

-- ---- letters

-- an instruction of this operation has these targets, which fit it
pub record IsOf (i : Instruction) (operation : Operation) (targets : List Target) : Type 0 where
  pub operation_is : i.operation ≡ operation
  pub targets_are : i.targets ≡ targets
  pub fits : Fits i

-- the letters of the product with this number
pub record LendsProduct (i : Instruction) (k : ℕ) (letters : Letters) : Type 0 where
  pub operation : i.operation ≡ ProductMeasurement
  pub small : AreSmall letters
  pub there : k < length (products_of i.targets)
  pub terms : letters_in letters ≡ map term_of (slice_index_or (products_of i.targets) k [])

-- the letters that the fault with this number applies, of those that an instruction makes on n qubits after what came before
pub record LendsFault (n : ℕ) (b : Before) (i : Instruction) (k : ℕ) (letters : Letters) : Type 0 where
  pub small : AreSmall letters
  pub fault : slice_get (new_faults n b i) k ≡ Some (fault_with i.arguments (Applies (letters_in letters)))

abbrev pub Lends : ℕ → Before → Instruction → ℕ → Step → Type 0
Lends n b i k (CollapseWord letters rec inverted flip) = LendsProduct i k letters
Lends n b i k (Fault name letters) = LendsFault n b i k letters
Lends n b i k step = ⊤
