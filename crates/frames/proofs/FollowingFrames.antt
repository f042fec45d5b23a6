-- Frames beside a reference run follow it over the next step of a program, and both stay as they are at faults that happen in no
-- run.
use Rattle.std.proofs.Common.{◌≡◌, ◌+◌, ◌≤◌, ℕ, Bool, true, false, List, [], ◌∷◌, drop, length, get_or, Option, None, Some, refl, sym, ap, subst, ◌∙◌, arith}
use Rattle.std.specs.Prelude.{slice_get}
use Rattle.bit_rows.specs.Lanes.{lane, lane_bit}
use Rattle.circuit_walk.specs.Walks.{AreFaultsFrom}
use Rattle.forward_sim.specs.References.{GoneOver, IsNext, IsReferenceOf, IsSaid, ReferenceRun, StandBefore, said_of}
use Rattle.forward_sim.proofs.RunRecords.{length-records_of}
use Rattle.forward_sim.proofs.WalkedSteps.{drop-step}
use Rattle.step_model.specs.declared.step.Term.{Term}
use Rattle.step_model.specs.Frames.{zero_coins}
use Rattle.step_model.specs.Listing.{Listing, ListedStep, is_collapse, step_records}
use Rattle.step_model.specs.Runs.{RunState, start}
use Rattle.step_model.specs.WellFormed.{IsWellFormed}
use Rattle.step_model.proofs.StepNumbers.{fits_at}
use Rattle.frames.specs.Batches.{AreAtStart, start_frame}
use Rattle.frames.specs.LaneFrames.{LaneFrames, GoesTo}
use Rattle.frames.specs.private.Beside.{Beside}
use Rattle.frames.specs.private.Followed.{AreStill, TurnsAt, followed}
use Rattle.frames.specs.private.Quiet.{NoneHappens}
use Rattle.frames.specs.private.Takers.{IsFollowing}
use Rattle.frames.proofs.Beside.{beside-collapse, beside-other, beside-room, beside-start, entry-turns}
use Rattle.frames.proofs.QuietBeside.{beside-quiet}
use Rattle.frames.proofs.StillFrames.{still-start}

pub following-start : (program : Listing) (faults coins : List ℕ) (still : Bool) (f : LaneFrames) (reference : ReferenceRun) → IsWellFormed program → IsReferenceOf program reference
    → StandBefore program program.steps (start (zero_coins program)) 0 reference.words → length f.letters ≡ program.qubits → f.room ≡ program.records → AreAtStart f
    → IsFollowing program faults coins 0 faults coins 0 still f reference
following-start program faults coins still f reference well is stand qubits room starts = record {
  same = refl;
  same_coins = refl;
  qubits = qubits;
  room = room;
  reference_is = is;
  beside = beside-start program reference faults coins f well is stand (λ j. starts j ∙ ap start_frame qubits);
  are_still = λ known. still-start f starts;
}

module _ (program : Listing) (well : IsWellFormed program) (faults coins : List ℕ) (k : ℕ) (happening tossed : List ℕ) (collapse : ℕ) (still : Bool) (f : LaneFrames) (reference : ReferenceRun)
    (is : IsFollowing program faults coins k happening tossed collapse still f reference) where
  -- the next step
  module _ (s : ListedStep) (here : slice_get program.steps k ≡ Some s) where
    abbrev rest : List ListedStep
    rest = drop (k + 1) program.steps

    before : Beside program reference happening tossed (s ∷ rest) collapse f
    before = subst (λ steps. Beside program reference happening tossed steps collapse f) (drop-step program.steps k s here) is.beside

    pub following-next : IsNext program s reference.words
    following-next = (rest, before.m, collapse, before.stand)

    pub following-room : length f.flips + length (step_records s) ≤ f.room
    following-room =
        let count : length reference.records ≡ program.records = ap length is.reference_is.records ∙ length-records_of program [] (zero_coins program) well in
        omega (arith, is.room, beside-room program reference happening tossed s rest collapse f count before)

    -- over which the reference run has gone
    module _ (after : ReferenceRun) (over : (rest : List ListedStep) (m : RunState) (k : ℕ) → StandBefore program (s ∷ rest) m k reference.words → GoneOver program s rest m k after.words) where
      gone : GoneOver program s rest before.m collapse after.words
      gone = over rest before.m collapse before.stand

      pub following-said : is_collapse s ≡ true → IsSaid collapse after.words
      following-said = gone.said

      pub following-turns : (replaced : Option (List Term)) → replaced ≡ said_of collapse after.words → TurnsAt program.qubits replaced s
      following-turns replaced said =
          subst (λ entry. TurnsAt program.qubits entry s) (sym said) (entry-turns program.qubits before.m.state s _ gone.entry)

      module _ (keeps : IsReferenceOf program reference → IsReferenceOf program after) (same : after.records ≡ reference.records) where
        pub following-collapse : is_collapse s ≡ true → (runs : ℕ) → ((j : ℕ) → lane_bit j runs ≡ get_or (lane j tossed) collapse false)
            → (replaced : Option (List Term)) → replaced ≡ said_of collapse after.words
            → (new : LaneFrames) → GoesTo f new (λ j v. followed program (lane j happening) replaced (lane_bit j runs) s v)
            → IsFollowing program faults coins (k + 1) happening tossed (collapse + 1) false new after
        following-collapse collapses runs runs_are replaced said new goes = record {
          same = is.same;
          same_coins = is.same_coins;
          qubits = goes.qubits ∙ is.qubits;
          room = goes.room ∙ is.room;
          reference_is = keeps is.reference_is;
          beside =
              beside-collapse program reference after happening tossed s rest collapse runs f new (fits_at program k s well here) collapses before same gone runs_are
              (subst (λ entry. GoesTo f new (λ j v. followed program (lane j happening) entry (lane_bit j runs) s v)) said goes);
          are_still = λ known. cc;
        }

        pub following-other : is_collapse s ≡ false → (runs : ℕ) (stays : Bool) (new : LaneFrames) → GoesTo f new (λ j v. followed program (lane j happening) None (lane_bit j runs) s v) → (stays ≡ true → AreStill new)
            → IsFollowing program faults coins (k + 1) happening tossed collapse stays new after
        following-other other runs stays new goes are_still = record {
          same = is.same;
          same_coins = is.same_coins;
          qubits = goes.qubits ∙ is.qubits;
          room = goes.room ∙ is.room;
          reference_is = keeps is.reference_is;
          beside = beside-other program reference after happening tossed s rest collapse runs f new (fits_at program k s well here) other before same gone goes;
          are_still = are_still;
        }

  -- so many faults
  pub following-quiet : (first count passed : ℕ) → passed ≤ count → AreFaultsFrom program.steps k first count → NoneHappens happening first (first + passed)
      → IsFollowing program faults coins (k + passed) happening tossed collapse still f reference
  following-quiet first count passed few are none = record {
    same = is.same;
    same_coins = is.same_coins;
    qubits = is.qubits;
    room = is.room;
    reference_is = is.reference_is;
    beside = beside-quiet program reference happening tossed collapse f well k first passed (λ i below. are i (omega (arith, below, few))) none is.beside;
    are_still = is.are_still;
  }
