-- What follows 64 runs of a program, and what it shows of each: frames beside a reference run, which show records, or detections, a
-- word for each target; or frames alone, which show detections, where no target is random.
-- (This project's own.)
use Rattle.std.specs.Prelude.{◌≡◌, ℕ, Bool, List, length}
use Rattle.bit_rows.specs.Lanes.{lane}
use Rattle.step_model.specs.Listing.{Listing}
use Rattle.step_model.specs.Targets.{targets_of}
use Rattle.frames.specs.Batches.{IsBatchOf, shot_records}
use Rattle.frames.specs.Carried.{NoneRandom}
use Rattle.frames.specs.LaneFrames.{LaneFrames}
use Rattle.frames.specs.declared.follower.Follower.{Follower}
use Rattle.frames.specs.declared.follower.Follower.TheVariants as follower
use Rattle.frames.specs.declared.side_runs.Shown.{Shown}
use Rattle.frames.specs.declared.side_runs.Shown.TheVariants.{Records, Detections}

-- frames of this program, of which no target is random
pub record AreFramesOf (program : Listing) (frames : LaneFrames) : Type 0 where
  pub none_random : NoneRandom program
  pub qubits : length frames.letters ≡ program.qubits
  pub room : frames.room ≡ program.records

-- what follows runs of this program
abbrev pub Follows : {A : Type 0} → Listing → Follower A → Type 0
Follows program (follower.Records batch) = IsBatchOf program batch
Follows program (follower.Detections beside) = IsBatchOf program beside.batch × (length beside.words.items ≡ length (targets_of program))
Follows program (follower.Alone alone) = AreFramesOf program alone.frames × (length alone.words.items ≡ length (targets_of program))

-- what it shows of them
abbrev pub kind_of : {A : Type 0} → Follower A → Shown
kind_of (follower.Records batch) = Records
kind_of (follower.Detections beside) = Detections
kind_of (follower.Alone alone) = Detections

-- how many truth values it shows of each
abbrev pub value_count : {A : Type 0} → Follower A → ℕ
value_count (follower.Records batch) = length batch.reference.records
value_count (follower.Detections beside) = length beside.words.items
value_count (follower.Alone alone) = length alone.words.items

-- what it shows of run j
abbrev pub shown_by : {A : Type 0} → ℕ → Follower A → List Bool
shown_by j (follower.Records batch) = shot_records j batch
shown_by j (follower.Detections beside) = lane j beside.words.items
shown_by j (follower.Alone alone) = lane j alone.words.items
