-- What a circuit takes, counted on its tree without unrolling it. An instruction is a step, and each of its targets is
-- one more (a record in a pair is a target, and a product is one target); each turn of a block is a step too. The qubits
-- are those up to the greatest that any instruction names, and so are the observables. (What counts as a step is this
-- project's choice.)
use Rattle.std.specs.Prelude.{ℕ, ◌+◌, List, [], length, slice_index_or}
use Rattle.stim_lexer.specs.Reached.{greatest_by, total, instructions_of}
use Rattle.stim_parser.specs.declared.operation.Operation.{Operation}
use Rattle.stim_parser.specs.declared.operation.Operation.TheVariants.{ProductMeasurement, ObservableInclude}
use Rattle.stim_parser.specs.declared.target.Target.{Target}
use Rattle.stim_parser.specs.declared.target.Target.TheVariants.{Plain, Inverted, Pauli}
use Rattle.stim_parser.specs.Trees.{Tree}
use Rattle.stim_parser.specs.Numbers.{value_of}
use Rattle.stim_parser.specs.Limits.{products_of}

-- ---- steps

-- how many targets an operation has in these, a product being one
abbrev pub target_count : Operation → List Target → ℕ
target_count ProductMeasurement targets = length (products_of targets)
target_count operation targets = length targets

-- the steps of a tree as its limit counts them
abbrev pub step_total : Tree → ℕ
step_total tree = total 1 (λ i. 1 + target_count i.operation i.targets) tree

-- ---- qubits

-- one more than the qubit that a target names, and 0 where it names none
abbrev pub qubits_to : Target → ℕ
qubits_to (Plain q) = q + 1
qubits_to (Inverted q) = q + 1
qubits_to (Pauli inverted l q) = q + 1
qubits_to target = 0

-- one more than the greatest qubit that a tree names, and 0 where it names none
abbrev pub qubit_total : Tree → ℕ
qubit_total tree = greatest_by (λ i. greatest_by qubits_to i.targets) (instructions_of tree)

-- ---- observables

-- the first argument of an instruction, or nothing
abbrev pub first_argument : List (List ℕ) → List ℕ
first_argument arguments = slice_index_or arguments 0 []

-- how many observables there must be for an operation with these arguments: one more than the number that it names
abbrev pub observables_to : Operation → List (List ℕ) → ℕ
observables_to ObservableInclude arguments = value_of (first_argument arguments) + 1
observables_to operation arguments = 0

-- how many observables a tree has: up to the greatest that any instruction names
abbrev pub observable_total : Tree → ℕ
observable_total tree = greatest_by (λ i. observables_to i.operation i.arguments) (instructions_of tree)
