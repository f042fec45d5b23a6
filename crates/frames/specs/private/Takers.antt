-- What takes the steps of a program, behind the first k of them: frames alone, and frames beside a reference run.
-- (How they are taken is this project's own.)
use Rattle.std.specs.Prelude.{◌≡◌, ℕ, Bool, true, List, [], drop, length}
use Rattle.bit_rows.specs.Lanes.{lane}
use Rattle.forward_sim.specs.References.{IsReferenceOf, ReferenceRun}
use Rattle.run_laws.specs.Shifts.{carried_over}
use Rattle.step_model.specs.Listing.{Listing}
use Rattle.frames.specs.Carried.{carried_frame}
use Rattle.frames.specs.LaneFrames.{LaneFrames, frame_in}
use Rattle.frames.specs.private.Beside.{Beside}
use Rattle.frames.specs.private.Followed.{AreStill}

-- frames alone, which began with these faults: the steps that are left carry each to the end's. Where `still` all of them are I
pub record IsCarrying (program : Listing) (faults : List ℕ) (k : ℕ) (happening : List ℕ) (still : Bool) (frames : LaneFrames) : Type 0 where
  pub same : happening ≡ faults
  pub qubits : length frames.letters ≡ program.qubits
  pub room : frames.room ≡ program.records
  pub carried : (j : ℕ) → carried_over program [] (lane j happening) (drop k program.steps) (frame_in j frames) ≡ carried_frame program (lane j happening)
  pub are_still : still ≡ true → AreStill frames

-- frames beside a reference run, which began with these faults and coins, behind so many collapses
pub record IsFollowing (program : Listing) (faults coins : List ℕ) (k : ℕ) (happening tossed : List ℕ) (collapse : ℕ) (still : Bool) (frames : LaneFrames) (reference : ReferenceRun) : Type 0 where
  pub same : happening ≡ faults
  pub same_coins : tossed ≡ coins
  pub qubits : length frames.letters ≡ program.qubits
  pub room : frames.room ≡ program.records
  pub reference_is : IsReferenceOf program reference
  pub beside : Beside program reference happening tossed (drop k program.steps) collapse frames
  pub are_still : still ≡ true → AreStill frames
