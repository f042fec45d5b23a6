-- How many records, collapses, detectors, faults and steps a circuit's program has, counted on its tree by targets; and
-- its qubits and observables, over lists. (Stim's gate reference, github.com/quantumlib/Stim, doc/gates.md.)
use Rattle.std.specs.Prelude.{ℕ, ◌+◌, Bool, List, is_some, slice_get, ◌/◌, ◌==◌, if◌then◌else◌}
use Rattle.gate_table.specs.Images.{arity_of}
use Rattle.stim_parser.specs.declared.operation.Operation.{Operation}
use Rattle.stim_parser.specs.declared.operation.Operation.TheVariants.{Applies, Measurement, QubitReset, MeasurementReset, ProductMeasurement, DetectorDeclaration, PauliError, CorrelatedError}
use Rattle.stim_parser.specs.declared.target.Target.{Target}
use Rattle.stim_parser.specs.Trees.{Tree}
use Rattle.stim_parser.specs.Verdicts.{Instruction}
use Rattle.circuit_walk.specs.Totals.{observables_to, qubits_to, target_count}
use Rattle.stim_lexer.specs.Reached.{greatest_by, total}

-- of this many targets, how many records, collapses and detectors an operation makes
abbrev pub records_made : Operation → ℕ → ℕ
records_made (Measurement l) targets = targets
records_made (MeasurementReset l) targets = targets
records_made ProductMeasurement targets = targets
records_made operation targets = 0

abbrev pub collapses_made : Operation → ℕ → ℕ
collapses_made (QubitReset l) targets = targets
collapses_made operation targets = records_made operation targets

abbrev pub detectors_made : Operation → ℕ
detectors_made DetectorDeclaration = 1
detectors_made operation = 0

-- what an instruction counts towards the limits: steps, records, collapses and detectors
abbrev pub step_count : Instruction → ℕ
step_count i = 1 + target_count i.operation i.targets

abbrev pub record_count : Instruction → ℕ
record_count i = records_made i.operation (target_count i.operation i.targets)

abbrev pub collapse_count : Instruction → ℕ
collapse_count i = collapses_made i.operation (target_count i.operation i.targets)

abbrev pub detector_count : Instruction → ℕ
detector_count i = detectors_made i.operation

-- the same of a tree
abbrev pub record_total : Tree → ℕ
record_total tree = total 0 record_count tree

abbrev pub collapse_total : Tree → ℕ
collapse_total tree = total 0 collapse_count tree

abbrev pub detector_total : Tree → ℕ
detector_total tree = total 0 detector_count tree

-- how many faults an operation makes of this many targets: a measurement one of each record, where it has a probability
abbrev pub faults_counted : Operation → Bool → ℕ → ℕ
faults_counted (PauliError l) flips targets = targets
faults_counted CorrelatedError flips targets = 1
faults_counted operation flips targets = if flips then records_made operation targets else 0

-- whether an instruction has an argument
abbrev pub has_argument : Instruction → Bool
has_argument i = is_some (slice_get i.arguments 0)

abbrev pub fault_count : Instruction → ℕ
fault_count i = faults_counted i.operation (has_argument i) (target_count i.operation i.targets)

-- how many steps of a program an operation makes of this many targets
abbrev pub steps_made : Operation → ℕ → ℕ
steps_made (Applies g) targets = if arity_of g == 1 then targets else targets / 2
steps_made (PauliError l) targets = targets
steps_made CorrelatedError targets = 1
steps_made operation targets = collapses_made operation targets

-- how many steps of a program an instruction makes
abbrev pub made_count : Instruction → ℕ
made_count i = steps_made i.operation (target_count i.operation i.targets)

-- the faults of a tree, and the steps of its program
abbrev pub fault_total : Tree → ℕ
fault_total tree = total 0 fault_count tree

abbrev pub made_total : Tree → ℕ
made_total tree = total 0 made_count tree

-- one more than the greatest qubit that targets or instructions name, and 0 where they name none; observables likewise
abbrev pub qubits_named : List Target → ℕ
qubits_named targets = greatest_by qubits_to targets

abbrev pub observables_over : List Instruction → ℕ
observables_over instructions = greatest_by (λ i. observables_to i.operation i.arguments) instructions
