-- The answers of a pass over what a program declares, of whether two lists of records differ in the parity of each detector and
-- observable: what they are behind some of the declarations. (Stim's circuit format, DETECTOR and OBSERVABLE_INCLUDE; that they
-- are gone over one by one is this project's own.)
use Rattle.std.specs.Prelude.{◌≡◌, ◌+◌, ◌<◌, ℕ, Bool, false, List, [], length, slice_index_or}
use Rattle.circuit_walk.specs.Declarations.{Declared, added_to, detectors_in}
use Rattle.pauli_word.specs.Parity.{exclusive_or}
use Rattle.step_model.specs.Listing.{Listing}
use Rattle.step_model.specs.Targets.{parity}

-- whether the parity of the records named differs
abbrev pub differ_in : List Bool → List Bool → List ℕ → Bool
differ_in first second named = exclusive_or (parity named first) (parity named second)

-- behind these declarations their detectors have their answers, and an observable that of what was added to it
pub record AreAnswered (program : Listing) (first second : List Bool) (done : List Declared) (answers : List Bool) : Type 0 where
  pub size : length answers ≡ length program.detectors + length program.observables
  pub detectors : (d : ℕ) → d < length (detectors_in done) → slice_index_or answers d false ≡ differ_in first second (slice_index_or (detectors_in done) d [])
  pub observables : (k : ℕ) → k < length program.observables → slice_index_or answers (length program.detectors + k) false ≡ differ_in first second (added_to k done)

-- so they are for these two lists, which are of the program, and the next detector and the first observable are known
pub record IsAnswering (program : Listing) (first second : List Bool) (done : List Declared) (records reference : List Bool) (next detectors : ℕ) (answers : List Bool) : Type 0 where
  pub records_are : records ≡ first
  pub reference_is : reference ≡ second
  pub records_fit : length first ≡ program.records
  pub reference_fits : length second ≡ program.records
  pub next_is : next ≡ length (detectors_in done)
  pub detectors_are : detectors ≡ length program.detectors
  pub answered : AreAnswered program first second done answers
