-- What a circuit declares, in the order in which it is reached: detectors, and records that are added to observables, each
-- of them with the records that it lists. (Stim's gate reference, github.com/quantumlib/Stim, doc/gates.md, "DETECTOR",
-- "OBSERVABLE_INCLUDE"; that they are taken one by one is this project's own.)
use Rattle.std.specs.Prelude.{⊤, ◌≡◌, ◌<◌, ◌==◌, ℕ, if◌then◌else◌, All, List, [], ◌∷◌, ◌++◌, length, map}
use Rattle.std.specs.List.{range_with_len}
use Rattle.step_model.specs.Listing.{Listing}
use Rattle.stim_parser.specs.declared.operation.Operation.{Operation}
use Rattle.stim_parser.specs.declared.operation.Operation.TheVariants.{DetectorDeclaration, ObservableInclude}
use Rattle.stim_parser.specs.declared.target.Target.{Target}
use Rattle.stim_parser.specs.Numbers.{value_of}
use Rattle.stim_parser.specs.Trees.{Tree}
use Rattle.circuit_walk.specs.Meaning.{made_in}
use Rattle.circuit_walk.specs.TargetsMade.{records_named}
use Rattle.circuit_walk.specs.Totals.{first_argument}

-- what an instruction declares: a detector with the records that it lists, or records that are added to an observable
pub data Declared : Type 0 where
  Detector : (records : List ℕ) → Declared
  Inclusion : (observable : ℕ) (records : List ℕ) → Declared

-- the records of the detectors among them
abbrev pub detectors_in : List Declared → List (List ℕ)
detectors_in [] = []
detectors_in (Detector records ∷ all) = records ∷ detectors_in all
detectors_in (Inclusion k records ∷ all) = detectors_in all

-- what they add to the observable k, in order
abbrev pub added_to : ℕ → List Declared → List ℕ
added_to k [] = []
added_to k (Detector records ∷ all) = added_to k all
added_to k (Inclusion observable records ∷ all) = (if observable == k then records else []) ++ added_to k all

-- what an operation with these arguments and targets declares after r records
abbrev pub operation_declares : ℕ → Operation → List (List ℕ) → List Target → List Declared
operation_declares r DetectorDeclaration arguments targets = Detector (records_named r targets) ∷ []
operation_declares r ObservableInclude arguments targets = Inclusion (value_of (first_argument arguments)) (records_named r targets) ∷ []
operation_declares r operation arguments targets = []

-- what a circuit declares
abbrev pub declarations_of : Tree → List Declared
declarations_of tree = made_in tree (λ b i. operation_declares b.records i.operation i.arguments i.targets)

-- the observable to which records are added is one of the program's
abbrev pub IsThere : Listing → Declared → Type 0
IsThere listing (Detector records) = ⊤
IsThere listing (Inclusion observable records) = observable < length listing.observables

-- a program's declarations
pub record AreDeclarations (listing : Listing) (all : List Declared) : Type 0 where
  pub detectors : listing.detectors ≡ detectors_in all
  pub observables : listing.observables ≡ map (λ k. added_to k all) (range_with_len 0 (length listing.observables))
  pub there : All (IsThere listing) all

-- the next declaration of a program behind those that are done
pub record IsNextDeclared (listing : Listing) (done : List Declared) (next : Declared) : Type 0 where
  pub rest : List Declared
  pub all : AreDeclarations listing (done ++ next ∷ rest)
