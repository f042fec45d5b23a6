-- Words of targets, in the lanes of which stand the parities of the flips of their records, as far as declarations made them.
-- (How they are made is this project's own.)
use Rattle.std.specs.Prelude.{◌≡◌, ◌+◌, ◌<◌, ℕ, List, length, slice_index}
use Rattle.bit_rows.specs.Lanes.{lane, lane_bit}
use Rattle.circuit_walk.specs.Declarations.{Declared, added_to, detectors_in}
use Rattle.step_model.specs.Listing.{Listing}
use Rattle.step_model.specs.Targets.{parity, target_at, targets_of}

-- in each lane of a word stands the parity of these records
abbrev pub HasParities : List ℕ → List ℕ → ℕ → Type 0
HasParities flips named word = (j : ℕ) → lane_bit j word ≡ parity named (lane j flips)

-- of the flips of frames, which are those with which they began: a word for each detector that is done, and then one for each
-- observable, of what was added to it so far
pub record AreDetected (program : Listing) (begun : List ℕ) (done : List Declared) (flips words : List ℕ) : Type 0 where
  pub same : flips ≡ begun
  pub size : length words ≡ length (targets_of program)
  pub detectors : (d : ℕ) → d < length (detectors_in done) → HasParities flips (target_at program d) (slice_index words d)
  pub observables : (k : ℕ) → k < length program.observables → HasParities flips (added_to k done) (slice_index words (length program.detectors + k))
