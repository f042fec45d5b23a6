-- The meaning of a circuit: one pass over its instructions as they are reached, each with what came before it. The
-- program is what they make, appended. Records and faults are numbered from 0 in the order in which they are made,
-- whatever blocks they stand in. (Stim's circuit format, github.com/quantumlib/Stim, doc/file_format_stim_circuit.md.)
use Rattle.std.specs.Prelude.{ℕ, ◌+◌, List, [], ◌∷◌, ◌++◌, length, map}
use Rattle.std.specs.List.{filter, flat_map, range_with_len}
use Rattle.stim_lexer.specs.Reached.{reached}
use Rattle.step_model.specs.Listing.{Listing, ListedFault, ListedStep, is_collapse, step_records}
use Rattle.stim_parser.specs.Trees.{Tree}
use Rattle.stim_parser.specs.Verdicts.{Instruction}
use Rattle.circuit_walk.specs.Before.{Before}
use Rattle.circuit_walk.specs.FaultsMade.{faults_made}
use Rattle.circuit_walk.specs.StepsMade.{operation_made}
use Rattle.circuit_walk.specs.TargetsMade.{offset_after, operation_adds, operation_coordinates, operation_detectors}
use Rattle.circuit_walk.specs.Totals.{observable_total, qubit_total}

-- nothing came before the first instruction
abbrev pub at_start : Before
at_start = record { records = 0; faults = 0; offset = [] }

-- the steps that an instruction makes on n qubits, the records that these make, and its faults
abbrev pub new_steps : ℕ → Before → Instruction → List ListedStep
new_steps n b i = operation_made n b i.operation i.arguments i.targets

-- the records that these make
abbrev pub new_records : ℕ → Before → Instruction → List ℕ
new_records n b i = flat_map step_records (new_steps n b i)

-- the faults that the instruction makes
abbrev pub new_faults : ℕ → Before → Instruction → List ListedFault
new_faults n b i = faults_made (new_records n b i) i.operation i.arguments i.targets

-- what came before the instruction after this one
abbrev pub after : ℕ → Before → Instruction → Before
after n b i =
    record {
      records = b.records + length (new_records n b i);
      faults = b.faults + length (new_faults n b i);
      offset = offset_after b.offset i.operation i.arguments;
    }

-- what instructions make, one after another, where `make` says what one of them makes after what came before it
unfoldable pub made_of : {X : Type 0} → ℕ → (Before → Instruction → List X) → Before → List Instruction → List X
made_of n make b [] = []
made_of n make b (i ∷ instructions) = make b i ++ made_of n make (after n b i) instructions

-- what a circuit makes
abbrev pub made_in : {X : Type 0} → Tree → (Before → Instruction → List X) → List X
made_in tree make = made_of (qubit_total tree) make at_start (reached tree)

-- the program of a circuit that isn't refused
abbrev pub listing_of : Tree → Listing
listing_of tree =
    let steps = made_in tree (new_steps (qubit_total tree)) in
    record {
      qubits = qubit_total tree;
      records = length (flat_map step_records steps);
      collapses = length (filter is_collapse steps);
      steps = steps;
      detectors = made_in tree (λ b i. operation_detectors b.records i.operation i.targets);
      observables =
          map (λ k. made_in tree (λ b i. operation_adds k b.records i.operation i.arguments i.targets))
          (range_with_len 0 (observable_total tree));
      coordinates = made_in tree (λ b i. operation_coordinates b.offset i.operation i.arguments);
      faults = made_in tree (new_faults (qubit_total tree));
    }
