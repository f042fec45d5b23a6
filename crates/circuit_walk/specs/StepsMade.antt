-- The steps that one instruction makes, of its targets from left to right. A gate of one qubit makes a step for each
-- target, a gate of two for each pair. In a pair of CX, CY or CZ a record in place of a qubit makes feedback: X, Y or Z
-- is applied to the other qubit where that record is 1; `rec[-k]` is the kth last record made before the instruction. A
-- measurement makes a collapse (a projective measurement) of each target, with the next record, which is inverted where
-- the target has a `!`, and which the next fault may flip where a probability is given; a reset makes a collapse without
-- a record. In MPP each product makes one collapse, and its record is inverted where an odd number of its factors has a
-- `!`. An error of one letter makes a fault for each target; CORRELATED_ERROR makes one fault. Other instructions make no
-- step. (Stim's gate reference, github.com/quantumlib/Stim, doc/gates.md.)
use Rattle.std.specs.Prelude.{ℕ, ◌+◌, ◌-◌, ◌==◌, Bool, if◌then◌else◌, List, [], ◌∷◌, map, Option, None, Some}
use Rattle.gate_table.specs.declared.gate.Gate.{Gate}
use Rattle.gate_table.specs.declared.gate.Gate.TheVariants as gate
use Rattle.gate_table.specs.Images.{arity_of}
use Rattle.pauli_word.specs.declared.letter.Letter.{Letter}
use Rattle.pauli_word.specs.declared.letter.Letter.TheVariants as letter
use Rattle.pauli_word.specs.Words.{lone_letter}
use Rattle.step_model.specs.Listing.{ListedStep, One, Two, Collapse, Fault, Feedback, Measured, Word, Reset, word_of_terms}
use Rattle.stim_parser.specs.declared.operation.Operation.{Operation}
use Rattle.stim_parser.specs.declared.operation.Operation.TheVariants.{Applies, Measurement, QubitReset, MeasurementReset, ProductMeasurement, PauliError, CorrelatedError}
use Rattle.stim_parser.specs.declared.target.Target.{Target}
use Rattle.stim_parser.specs.declared.target.Target.TheVariants.{Back}
use Rattle.circuit_walk.specs.Before.{Before}
use Rattle.stim_parser.specs.Limits.{products_of, qubit_of}
use Rattle.circuit_walk.specs.Targets.{is_inverted, is_product_inverted, term_of}

-- what a function makes of each element and its number, where the first has number k
abbrev pub numbered_from : {X Y : Type 0} → ℕ → (ℕ → X → Y) → List X → List Y
numbered_from k f [] = []
numbered_from k f (x ∷ xs) = f k x ∷ numbered_from (k + 1) f xs

-- the letter that a record in a pair of this gate applies to the other qubit
abbrev pub fed_letter : Gate → Letter
fed_letter gate.CX = letter.X
fed_letter gate.CY = letter.Y
fed_letter g = letter.Z

-- a pair of targets of a gate after r records, on n qubits
abbrev pub pair_made : ℕ → ℕ → Gate → Target → Target → ListedStep
pair_made n r g (Back k) b = Feedback (lone_letter n (qubit_of b) (fed_letter g)) (r - k)
pair_made n r g a (Back k) = Feedback (lone_letter n (qubit_of a) (fed_letter g)) (r - k)
pair_made n r g a b = Two g (qubit_of a) (qubit_of b)

-- pairs from the left
abbrev pub pairs_made : ℕ → ℕ → Gate → List Target → List ListedStep
pairs_made n r g (a ∷ b ∷ targets) = pair_made n r g a b ∷ pairs_made n r g targets
pairs_made n r g targets = []

-- the steps of a gate: one for each target, or one for each pair
abbrev pub gate_made : ℕ → ℕ → Gate → List Target → List ListedStep
gate_made n r g targets =
    if arity_of g == 1 then map (λ target. One g (qubit_of target)) targets else pairs_made n r g targets

-- the fault of this number, where an instruction has an argument
abbrev pub flip_of : ℕ → List (List ℕ) → Option ℕ
flip_of f [] = None
flip_of f (probability ∷ arguments) = Some f

-- a collapse of each of these, recorded
abbrev pub collapses_made : {X : Type 0} → Before → List (List ℕ) → (X → Measured) → (X → Bool) → List X → List ListedStep
collapses_made b arguments measured inverted xs =
    numbered_from 0
    (λ k x. Collapse (measured x) (Some (record {
      number = b.records + k;
      inverted = inverted x;
      flip = flip_of (b.faults + k) arguments;
    })))
    xs

-- the steps of an operation with these arguments and targets, on n qubits
abbrev pub operation_made : ℕ → Before → Operation → List (List ℕ) → List Target → List ListedStep
operation_made n b (Applies g) arguments targets = gate_made n b.records g targets
operation_made n b (Measurement l) arguments targets =
    collapses_made b arguments (λ target. Word (lone_letter n (qubit_of target) l)) is_inverted targets
operation_made n b (QubitReset l) arguments targets = map (λ target. Collapse (Reset l (qubit_of target)) None) targets
operation_made n b (MeasurementReset l) arguments targets =
    collapses_made b arguments (λ target. Reset l (qubit_of target)) is_inverted targets
operation_made n b ProductMeasurement arguments targets =
    collapses_made b arguments (λ product. Word (word_of_terms n (map term_of product))) is_product_inverted (products_of targets)
operation_made n b (PauliError l) arguments targets = numbered_from b.faults (λ f target. Fault f) targets
operation_made n b CorrelatedError arguments targets = Fault b.faults ∷ []
operation_made n b operation arguments targets = []
