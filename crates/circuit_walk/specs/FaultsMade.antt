-- The faults that one instruction makes, in the order of its targets. An error of one letter makes a fault for each
-- target, which applies that letter there; CORRELATED_ERROR makes one, which applies the product of its targets. A
-- measurement with a probability makes a fault for each of its records, which flips that record. A fault has the text of
-- its instruction's probability as it stands, and its bound: the floor of the probability times 2^64. (Stim's gate
-- reference, github.com/quantumlib/Stim, doc/gates.md.)
use Rattle.std.specs.Prelude.{ℕ, List, [], ◌∷◌, map, unwrap_or}
use Rattle.step_model.specs.Listing.{ListedFault, Effect, Applies, Flips}
use Rattle.step_model.specs.Probabilities.{probability_bound}
use Rattle.stim_parser.specs.declared.operation.Operation.{Operation}
use Rattle.stim_parser.specs.declared.operation.Operation.TheVariants.{PauliError, CorrelatedError}
use Rattle.stim_parser.specs.declared.target.Target.{Target}
use Rattle.circuit_walk.specs.Targets.{term_at, term_of}
use Rattle.circuit_walk.specs.Totals.{first_argument}

-- a fault with this effect and the probability of an instruction
abbrev pub fault_with : List (List ℕ) → Effect → ListedFault
fault_with arguments effect =
    let probability = first_argument arguments in
    record { text = probability; bound = unwrap_or (probability_bound probability) 0; effect = effect }

-- a fault for each of these records, where a probability is given
abbrev pub flips_made : List (List ℕ) → List ℕ → List ListedFault
flips_made [] records = []
flips_made (probability ∷ arguments) records = map (λ r. fault_with (probability ∷ arguments) (Flips r)) records

-- the faults of an operation with these arguments and targets, where its steps make these records
abbrev pub faults_made : List ℕ → Operation → List (List ℕ) → List Target → List ListedFault
faults_made records (PauliError l) arguments targets = map (λ target. fault_with arguments (Applies (term_at l target ∷ []))) targets
faults_made records CorrelatedError arguments targets = fault_with arguments (Applies (map term_of targets)) ∷ []
faults_made records operation arguments targets = flips_made arguments records
