-- 64 runs and the reference run between two steps: each run differs from the reference run by its frame, and the steps that
-- are left make the rest of the records of each. (With a reference sample, as in Stim's frame simulator: Gidney, Quantum 5,
-- 497 (2021).)
use Rattle.std.specs.Prelude.{◌≡◌, ◌+◌, ℕ, Bool, false, List, [], drop, length, slice_index_or}
use Rattle.bit_rows.specs.Lanes.{lane}
use Rattle.forward_sim.specs.References.{ReferenceRun, StandBefore}
use Rattle.pauli_word.specs.Groups.{IsGroup}
use Rattle.step_model.specs.Frames.{Frame}
use Rattle.step_model.specs.Listing.{Listing, ListedStep}
use Rattle.step_model.specs.Runs.{RunState, run_from, records_of}
use Rattle.step_model.specs.WellFormed.{collapse_count}
use Rattle.run_laws.specs.Shifts.{IsShifted, flipped_by}
use Rattle.frames.specs.LaneFrames.{LaneFrames, frame_in}

-- two runs between two steps, whatever their coins to come, differ by a frame
pub record Differ (n : ℕ) (v : Frame) (m m' : RunState) : Type 0 where
  pub size : length v.word ≡ n
  pub group : IsGroup n m.state
  pub states : IsShifted n v.word m.state m'.state
  pub records_size : length v.records ≡ length m.records
  pub records : m'.records ≡ flipped_by v.records m.records

-- one of the runs, in which these faults happen, with `coins` to come
pub record IsShot (program : Listing) (faults coins : List Bool) (steps : List ListedStep) (coins_left : List Bool) (v : Frame) (m : RunState) : Type 0 where
  pub run : RunState
  pub differ : Differ program.qubits v m run
  pub coins_are : run.coins ≡ coins_left
  pub whole : (run_from program faults steps run).records ≡ records_of program faults coins

-- all of them, with the steps that are left, behind so many collapses
pub record Beside (program : Listing) (reference : ReferenceRun) (faults coins : List ℕ) (steps : List ListedStep) (k : ℕ) (f : LaneFrames) : Type 0 where
  pub m : RunState
  pub stand : StandBefore program steps m k reference.words
  pub counted : k + collapse_count steps ≡ program.collapses
  pub zeros : (i : ℕ) → slice_index_or m.coins i false ≡ false
  pub whole : (run_from program [] steps m).records ≡ reference.records
  pub shots : (j : ℕ) → IsShot program (lane j faults) (lane j coins) steps (drop k (lane j coins)) (frame_in j f) m
