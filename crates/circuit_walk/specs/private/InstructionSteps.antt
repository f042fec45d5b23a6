-- The steps of one instruction, one after another: where each stands among the targets, and what came before it.
-- (Stim's gate reference, github.com/quantumlib/Stim, doc/gates.md; how they are gone through is this project's own.)
use Rattle.std.specs.Prelude.{◌≡◌, ◌≤◌, ◌+◌, ◌*◌, ℕ, Bool, false, if◌then◌else◌, is_some, List, [], ◌∷◌, length, map, take, Option, None, Some, slice_get}
use Rattle.gate_table.specs.Images.{arity_of}
use Rattle.stim_parser.specs.declared.operation.Operation.{Operation}
use Rattle.stim_parser.specs.declared.operation.Operation.TheVariants.{Applies, Measurement, QubitReset, MeasurementReset, ProductMeasurement, PauliError, CorrelatedError}
use Rattle.stim_parser.specs.declared.target.Target.{Target}
use Rattle.stim_parser.specs.declared.target.Target.TheVariants.{Star}
use Rattle.stim_parser.specs.Circuits.{Fits}
use Rattle.stim_parser.specs.Verdicts.{Instruction}
use Rattle.step_model.specs.Listing.{ListedStep, Collapse, Recorded, Word, word_of_terms}
use Rattle.circuit_walk.specs.Makes.{makes_collapses, makes_faults, makes_records, one_if}
use Rattle.circuit_walk.specs.Targets.{is_product_inverted, term_of}
use Rattle.circuit_walk.specs.declared.instruction_steps.InstructionSteps.{InstructionSteps}
use Rattle.circuit_walk.specs.declared.step.Counts.{Counts}
use Rattle.circuit_walk.specs.Before.{Before}
use Rattle.circuit_walk.specs.Refusals.{reaches_far}

-- ---- where steps stand

-- a factor and a star in front of the first of some products
abbrev pub in_front : Target → List (List Target) → List (List Target)
in_front factor [] = (factor ∷ Star ∷ []) ∷ []
in_front factor (product ∷ products) = (factor ∷ Star ∷ product) ∷ products

-- the products of targets, with the stars between their factors
abbrev pub product_words : List Target → List (List Target)
product_words [] = []
product_words (factor ∷ Star ∷ targets) = in_front factor (product_words targets)
product_words (factor ∷ targets) = (factor ∷ []) ∷ product_words targets

-- how many targets these products have, with stars
abbrev pub words_length : List (List Target) → ℕ
words_length [] = 0
words_length (product ∷ products) = length product + words_length products

-- the last place of an operation with these targets: behind all of them, or behind the one step that all of them make
abbrev pub end_of : Operation → List Target → ℕ
end_of (Applies g) targets = length targets
end_of (Measurement l) targets = length targets
end_of (QubitReset l) targets = length targets
end_of (MeasurementReset l) targets = length targets
end_of ProductMeasurement targets = length targets
end_of (PauliError l) targets = length targets
end_of CorrelatedError targets = 1
end_of operation targets = 0

-- the place behind the first k steps
abbrev pub IsAt : Operation → List Target → ℕ → ℕ → Type 0
IsAt (Applies g) targets at k = (at ≡ arity_of g * k) × (at ≤ length targets)
IsAt ProductMeasurement targets at k =
    (at ≡ words_length (take k (product_words targets))) × (k ≤ length (product_words targets))
IsAt operation targets at k = (at ≡ k) × (k ≤ end_of operation targets)

-- ---- what came before a step

-- what one step of an operation makes
abbrev pub made_by : Operation → Bool → Counts
made_by operation flips =
    record {
      records = one_if (makes_records operation);
      collapses = one_if (makes_collapses operation);
      faults = one_if (makes_faults operation flips);
    }

-- the counts behind a step, and before it
abbrev pub counts_behind : Operation → Bool → Counts → Counts
counts_behind operation flips c =
    record {
      records = c.records + one_if (makes_records operation);
      collapses = c.collapses + one_if (makes_collapses operation);
      faults = c.faults + one_if (makes_faults operation flips);
    }

-- the counts behind the first k steps of an operation
pub record AreCounts (b : Before) (operation : Operation) (flips : Bool) (k : ℕ) (c : Counts) : Type 0 where
  pub records : c.records ≡ b.records + k * one_if (makes_records operation)
  pub faults : c.faults ≡ b.faults + k * one_if (makes_faults operation flips)

-- what becomes of the outcome of a step behind these counts
abbrev pub recorded_at : Counts → Bool → Bool → Option Recorded
recorded_at c flips inverted =
    Some (record { number = c.records; inverted = inverted; flip = if flips then Some c.faults else None })

-- the measurement of a product behind these counts, on n qubits
abbrev pub product_made : ℕ → List Target → Counts → Bool → ListedStep
product_made n product c flips =
    Collapse (Word (word_of_terms n (map term_of product))) (recorded_at c flips (is_product_inverted product))

-- ---- an instruction

-- whether an instruction has an argument
abbrev pub has_argument : Instruction → Bool
has_argument i = is_some (slice_get i.arguments 0)

-- these are the steps of this instruction
pub record AreStepsOf (i : Instruction) (s : InstructionSteps) : Type 0 where
  pub operation : s.operation ≡ i.operation
  pub targets : s.targets.now ≡ i.targets
  pub flips : s.flips ≡ has_argument i
  pub end : s.end ≡ end_of i.operation i.targets
  pub fits : Fits i

-- the place of some steps is behind the first k of them, which these counts are behind
pub record Stands (i : Instruction) (b : Before) (s : InstructionSteps) (c : Counts) (k : ℕ) : Type 0 where
  pub steps : AreStepsOf i s
  pub place : IsAt i.operation i.targets s.at k
  pub counts : AreCounts b i.operation s.flips k c
  pub near : reaches_far b.records i.targets ≡ false
