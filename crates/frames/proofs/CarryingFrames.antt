-- Frames alone are carried over the next step of a program, and stay as they are at faults that happen in no run.
use Rattle.std.proofs.Common.{◌≡◌, ◌+◌, ◌≤◌, ℕ, Bool, true, List, [], ◌∷◌, drop, length, Some, refl, sym, ap, ◌∙◌, None, arith}
use Rattle.std.specs.Prelude.{slice_get}
use Rattle.bit_rows.specs.Lanes.{lane, lane_bit}
use Rattle.circuit_walk.specs.Walks.{AreFaultsFrom}
use Rattle.forward_sim.proofs.PassedFaults.{behind_each}
use Rattle.forward_sim.proofs.WalkedSteps.{drop-step}
use Rattle.run_laws.specs.Shifts.{carried_over}
use Rattle.step_model.specs.Listing.{Listing, ListedStep, Fault, step_records}
use Rattle.step_model.specs.WellFormed.{IsWellFormed}
use Rattle.frames.specs.Batches.{AreAtStart, start_frame}
use Rattle.frames.specs.Carried.{carried_frame}
use Rattle.frames.specs.LaneFrames.{LaneFrames, GoesTo, frame_in}
use Rattle.frames.specs.private.Followed.{AreStill, followed}
use Rattle.frames.specs.private.Quiet.{HappensNowhere, NoneHappens}
use Rattle.frames.specs.private.Takers.{IsCarrying}
use Rattle.frames.proofs.CarriedFrames.{carried-on, carried-room}
use Rattle.frames.proofs.QuietFaults.{quiet-goes}
use Rattle.frames.proofs.StillFrames.{still-start}

pub carrying-start : (program : Listing) (faults : List ℕ) (still : Bool) (f : LaneFrames) → length f.letters ≡ program.qubits → f.room ≡ program.records → AreAtStart f
    → IsCarrying program faults 0 faults still f
carrying-start program faults still f qubits room start = record {
  same = refl;
  qubits = qubits;
  room = room;
  carried = λ j. ap (carried_over program [] (lane j faults) program.steps) (start j ∙ ap start_frame qubits);
  are_still = λ is. still-start f start;
}

module _ (program : Listing) (well : IsWellFormed program) (faults : List ℕ) (k : ℕ) (happening : List ℕ) (still : Bool) (f : LaneFrames) (is : IsCarrying program faults k happening still f) where
  -- the next step
  module _ (s : ListedStep) (here : slice_get program.steps k ≡ Some s) where
    -- it and what is left behind it carry each frame to the end's
    left : (j : ℕ) → carried_over program [] (lane j happening) (s ∷ drop (k + 1) program.steps) (frame_in j f) ≡ carried_frame program (lane j happening)
    left j = ap (λ steps. carried_over program [] (lane j happening) steps (frame_in j f)) (sym (drop-step program.steps k s here)) ∙ is.carried j

    pub carrying-room : length f.flips + length (step_records s) ≤ f.room
    carrying-room = omega (arith, is.room, carried-room program (lane 0 happening) s (drop (k + 1) program.steps) f well (left 0))

    pub carrying-on : (runs : ℕ) (stays : Bool) (new : LaneFrames) → GoesTo f new (λ j v. followed program (lane j happening) None (lane_bit j runs) s v) → (stays ≡ true → AreStill new)
        → IsCarrying program faults (k + 1) happening stays new
    carrying-on runs stays new goes are_still = record {
      same = is.same;
      qubits = goes.qubits ∙ is.qubits;
      room = goes.room ∙ is.room;
      carried = carried-on program happening s (drop (k + 1) program.steps) runs f new (λ j. carried_frame program (lane j happening)) goes left;
      are_still = are_still;
    }

  -- so many faults
  pub carrying-quiet : (first count passed : ℕ) → passed ≤ count → AreFaultsFrom program.steps k first count → NoneHappens happening first (first + passed)
      → IsCarrying program faults (k + passed) happening still f
  carrying-quiet first count passed few are none = record {
    same = is.same;
    qubits = is.qubits;
    room = is.room;
    carried =
        behind_each (λ i. (j : ℕ) → carried_over program [] (lane j happening) (drop i program.steps) (frame_in j f) ≡ carried_frame program (lane j happening)) (HappensNowhere happening) program.steps
        (λ i n here quiet before.
        carried-on program happening (Fault n) (drop (i + 1) program.steps) 0 f f (λ j. carried_frame program (lane j happening)) (quiet-goes program happening n 0 f quiet)
        (λ j. ap (λ steps. carried_over program [] (lane j happening) steps (frame_in j f)) (sym (drop-step program.steps i (Fault n) here)) ∙ before j))
        passed k first (λ i below. are i (omega (arith, below, few))) none is.carried;
    are_still = is.are_still;
  }
