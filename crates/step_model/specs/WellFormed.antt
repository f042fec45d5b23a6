-- What holds of every program: all that its steps name exists, each gate acts on as many qubits as its step names, the
-- two qubits of a gate differ, no collapse measures the identity; collapses, records and faults are numbered from 0 in
-- the order of the steps, each once; each probability text is accepted and has its bound; and the targets are within the
-- limits.
-- (Stim's circuit format: what an instruction may name.)
use Rattle.std.specs.Prelude.{⊤, ◌≡◌, ◌≤◌, ◌<◌, ◌==◌, ◌^◌, nat_lt, ℕ, ℤ, nat_abs, Bool, true, false, not, ◌&&◌, if◌then◌else◌, List, [], ◌∷◌, ◌++◌, ◌+◌, length, All, Option, None, Some}
use Rattle.std.specs.List.{range_with_len, AllPass, list_any}
use Rattle.std.specs.Option.{option_to_list}
use Rattle.gate_table.specs.Images.{arity_of}
use Rattle.pauli_word.specs.declared.letter.Letter.{Letter}
use Rattle.step_model.specs.Listing.{Listing, ListedStep, One, Two, Collapse, Fault, Feedback, Measured, Word, Reset, Recorded, ListedFault, Effect, Applies, Flips, effect_at, word_of_terms, is_I, is_collapse, step_records}
use Rattle.step_model.specs.declared.step.Term.{Term}
use Rattle.step_model.specs.Probabilities.{probability_bound}

-- whether a fault applies a word
abbrev pub applies_word : Effect → Bool
applies_word (Applies terms) = true
applies_word (Flips r) = false

-- whether a fault flips this record
abbrev pub flips_record : ℕ → Effect → Bool
flips_record r (Applies terms) = false
flips_record r (Flips s) = r == s

-- whether a record's flip, where there is one, is a fault that flips that record
abbrev pub flip_fits : Listing → ℕ → Option ℕ → Bool
flip_fits program r None = true
flip_fits program r (Some f) = nat_lt f (length program.faults) && flips_record r (effect_at program f)

-- the same of what becomes of an outcome
abbrev pub record_fits : Listing → Option Recorded → Bool
record_fits program None = true
record_fits program (Some r) = flip_fits program r.number r.flip

-- whether a word is on n qubits and not the identity
abbrev pub word_fits : ℕ → List Letter → Bool
word_fits n w = length w == n && list_any (λ a. not (is_I a)) w

-- whether a collapse on n qubits measures something other than the identity
abbrev pub measured_fits : ℕ → Measured → Bool
measured_fits n (Word w) = word_fits n w
measured_fits n (Reset letter q) = not (is_I letter) && nat_lt q n

-- whether all that a step names exists, in the number and form that the step needs
abbrev pub step_fits : Listing → ListedStep → Bool
step_fits program (One gate q) = arity_of gate == 1 && nat_lt q program.qubits
step_fits program (Two gate a b) =
    arity_of gate == 2 && nat_lt a program.qubits && nat_lt b program.qubits && not (a == b)
step_fits program (Collapse c r) = measured_fits program.qubits c && record_fits program r
step_fits program (Fault f) = nat_lt f (length program.faults) && applies_word (effect_at program f)
step_fits program (Feedback w r) = word_fits program.qubits w

-- how many steps are collapses
abbrev pub collapse_count : List ListedStep → ℕ
collapse_count [] = 0
collapse_count (step ∷ steps) = (if is_collapse step then 1 else 0) + collapse_count steps

-- the records that steps make, in their order
abbrev pub records_made : List ListedStep → List ℕ
records_made [] = []
records_made (step ∷ steps) = step_records step ++ records_made steps

-- whether a step, if it is feedback, depends on an earlier record, where `made` records were made before it
abbrev pub is_earlier : ℕ → ListedStep → Bool
is_earlier made (Feedback w r) = nat_lt r made
is_earlier made step = true

-- the same of all these steps
abbrev pub feeds_earlier : ℕ → List ListedStep → Bool
feeds_earlier made [] = true
feeds_earlier made (step ∷ steps) = is_earlier made step && feeds_earlier (made + length (step_records step)) steps

-- the faults that a step names
abbrev pub step_faults : ListedStep → List ℕ
step_faults (One gate q) = []
step_faults (Two gate a b) = []
step_faults (Collapse c None) = []
step_faults (Collapse c (Some r)) = option_to_list r.flip
step_faults (Fault f) = f ∷ []
step_faults (Feedback w r) = []

-- the faults that steps name, in their order
abbrev pub faults_named : List ListedStep → List ℕ
faults_named [] = []
faults_named (step ∷ steps) = step_faults step ++ faults_named steps

-- the qubits of terms are the program's
abbrev pub TermsFit : ℕ → List Term → Type 0
TermsFit qubits terms = All (λ term. term.qubit < qubits) terms

-- and those of the terms that a fault applies
abbrev pub EffectFits : ℕ → Effect → Type 0
EffectFits qubits (Applies terms) = TermsFit qubits terms
EffectFits qubits (Flips r) = ⊤

-- a fault's bound is that of its text, and its terms are at the program's qubits
pub record FaultFits (qubits : ℕ) (fault : ListedFault) : Type 0 where
  pub bound : probability_bound fault.text ≡ Some fault.bound
  pub effect : EffectFits qubits fault.effect

-- at most 16 coordinates, each of a magnitude below 10^18
pub record CoordinatesFit (coordinates : List ℤ) : Type 0 where
  pub few : length coordinates ≤ 16
  pub within : All (λ c. nat_abs c < 10 ^ 18) coordinates

-- a product that is measured is a word other than the identity
pub record ProductFits (qubits : ℕ) (terms : List Term) : Type 0 where
  pub terms_fit : TermsFit qubits terms
  pub word : word_fits qubits (word_of_terms qubits terms) ≡ true

-- how many detectors a program has at most
abbrev pub most_detectors : ℕ
most_detectors = 1_000_000

-- and how many observables
abbrev pub most_observables : ℕ
most_observables = 1024

-- all of this holds of a program
pub record IsWellFormed (program : Listing) : Type 0 where
  pub steps_fit : AllPass (step_fits program) program.steps
  pub collapses_counted : collapse_count program.steps ≡ program.collapses
  pub records_in_order : records_made program.steps ≡ range_with_len 0 program.records
  pub feedback_earlier : feeds_earlier 0 program.steps ≡ true
  pub faults_in_order : faults_named program.steps ≡ range_with_len 0 (length program.faults)
  pub faults_fit : All (FaultFits program.qubits) program.faults
  pub detectors_fit : All (All (λ r. r < program.records)) program.detectors
  pub observables_fit : All (All (λ r. r < program.records)) program.observables
  pub coordinates_given : length program.coordinates ≡ length program.detectors
  pub coordinates_fit : All CoordinatesFit program.coordinates
  pub few_detectors : length program.detectors ≤ most_detectors
  pub few_observables : length program.observables ≤ most_observables
