-- 64 runs and the reference run between two steps: each run differs from the reference run by its frame, and the steps that
-- are left make the rest of the records of each.
use Rattle.std.proofs.Common.{◌≡◌, ℕ, zero, suc, ◌+◌, ◌≤◌, Bool, true, false, List, [], ◌∷◌, length, get_or, drop, Option, None, Some, refl, sym, ap, subst, ◌∙◌, arith, length-append}
use Rattle.std.proofs.lemmas.List as lists
use Rattle.bit_rows.specs.Lanes.{lane, lane_bit}
use Rattle.pauli_word.specs.States.{State, start_state}
use Rattle.pauli_word.specs.Words.{no_letters, with_sign_changed}
use Rattle.pauli_word.proofs.Groups.{IsGroup-start}
use Rattle.step_model.specs.declared.step.Term.{Term}
use Rattle.step_model.specs.Frames.{Frame, zero_coins}
use Rattle.step_model.specs.Listing.{Listing, ListedStep, One, Two, Collapse, Fault, Feedback, Measured, Recorded, measured_word, step_records, is_collapse}
use Rattle.step_model.specs.Runs.{RunState, next, next_coin, run_from, records_of, start}
use Rattle.step_model.specs.WellFormed.{IsWellFormed, collapse_count, step_fits, records_made}
use Rattle.run_laws.proofs.ShiftLists.{get_or-zeros}
use Rattle.run_laws.proofs.ShiftWords.{anticommute-none}
use Rattle.forward_sim.specs.References.{GoneOver, IsEntry, IsReferenceOf, IsStepEntry, ReferenceRun, StandBefore, said_of}
use Rattle.forward_sim.proofs.RunRecords.{length-run_from}
use Rattle.forward_sim.proofs.WordsSaid.{zeros_after}
use Rattle.frames.specs.private.Beside.{Beside, Differ}
use Rattle.frames.specs.private.Followed.{TurnsAt, followed}
use Rattle.frames.specs.LaneFrames.{LaneFrames, GoesTo, frame_in}
use Rattle.frames.proofs.FollowLaw.{collapse-decided, collapse-random, other-step}

-- at the start
pub beside-start : (program : Listing) (reference : ReferenceRun) (faults coins : List ℕ) (f : LaneFrames) → IsWellFormed program → IsReferenceOf program reference
    → StandBefore program program.steps (start (zero_coins program)) 0 reference.words
    → ((j : ℕ) → frame_in j f ≡ record { word = no_letters program.qubits; records = [] })
    → Beside program reference faults coins program.steps 0 f
beside-start program reference faults coins f well_formed is stand starts = record {
  m = start (zero_coins program);
  stand = stand;
  counted = omega (arith, well_formed.collapses_counted);
  zeros = get_or-zeros program.collapses;
  whole = sym is.records;
  shots = λ j. record {
    run = start (lane j coins);
    differ = subst (λ v. Differ program.qubits v (start (zero_coins program)) (start (lane j coins))) (sym (starts j)) (record {
      size = lists.length-replicate program.qubits _;
      group = IsGroup-start program.qubits;
      states = λ p size. ap (λ b. start_state (with_sign_changed b p)) (sym (anticommute-none p.letters program.qubits));
      records_size = refl;
      records = refl;
    });
    coins_are = refl;
    whole = refl;
  };
}

drop-suc : (xs : List Bool) (k : ℕ) → drop 1 (drop k xs) ≡ drop (suc k) xs
drop-suc xs zero = refl
drop-suc [] (suc k) = refl
drop-suc (x ∷ xs) (suc k) = drop-suc xs k

next_coin-drop : (xs : List Bool) (k : ℕ) → next_coin (drop k xs) ≡ get_or xs k false
next_coin-drop xs zero = refl
next_coin-drop [] (suc k) = refl
next_coin-drop (x ∷ xs) (suc k) = next_coin-drop xs k

-- over a step that is no collapse
pub beside-other : (program : Listing) (reference after : ReferenceRun) (faults coins : List ℕ) (step : ListedStep) (rest : List ListedStep) (k runs : ℕ) (old new : LaneFrames)
    → step_fits program step ≡ true → is_collapse step ≡ false → (before : Beside program reference faults coins (step ∷ rest) k old)
    → after.records ≡ reference.records → GoneOver program step rest before.m k after.words
    → GoesTo old new (λ j v. followed program (lane j faults) None (lane_bit j runs) step v)
    → Beside program after faults coins rest k new
beside-other program reference after faults coins step rest k runs old new fits other before same over goes =
    let left = by_step step other over before.counted in
    record {
      m = next program [] step before.m;
      stand = left.0;
      counted = left.1;
      zeros = left.2;
      whole = before.whole ∙ sym same;
      shots = λ j.
          let shot = before.shots j in
          let run = next program (lane j faults) step shot.run in
          record {
            run = run;
            differ =
                subst (λ v. Differ program.qubits v (next program [] step before.m) run) (sym (goes.frames j))
                (other-step program (lane j faults) None (lane_bit j runs) step (frame_in j old) before.m shot.run fits other shot.differ);
            coins_are = left.3 j;
            whole = shot.whole;
          };
    }
  where
    by_step : (s : ListedStep) → is_collapse s ≡ false → GoneOver program s rest before.m k after.words → k + collapse_count (s ∷ rest) ≡ program.collapses
        → StandBefore program rest (next program [] s before.m) k after.words
        × (k + collapse_count rest ≡ program.collapses)
        × ((i : ℕ) → get_or (next program [] s before.m).coins i false ≡ false)
        × ((j : ℕ) → (next program (lane j faults) s (before.shots j).run).coins ≡ drop k (lane j coins))
    by_step (One gate q) other over counted = (over.stand, omega (arith, counted), before.zeros, λ j. (before.shots j).coins_are)
    by_step (Two gate a b) other over counted = (over.stand, omega (arith, counted), before.zeros, λ j. (before.shots j).coins_are)
    by_step (Collapse c r) other over counted = cc
    by_step (Fault f) other over counted = (over.stand, omega (arith, counted), before.zeros, λ j. (before.shots j).coins_are)
    by_step (Feedback w r) other over counted = (over.stand, omega (arith, counted), before.zeros, λ j. (before.shots j).coins_are)

-- what is said of a collapse turns the frames
pub entry-turns : (n : ℕ) (s : State) (step : ListedStep) (entry : Option (List Term)) → IsStepEntry n s step entry → TurnsAt n entry step
entry-turns n s (One gate q) entry is = tt
entry-turns n s (Two gate a b) entry is = tt
entry-turns n s (Collapse c r) None is = tt
entry-turns n s (Collapse c r) (Some terms) is = (is.0, is.1.anticommutes)
entry-turns n s (Fault f) entry is = tt
entry-turns n s (Feedback w r) entry is = tt

-- a collapse of which this is kept
pub collapse-differ : (program : Listing) (faults : List Bool) (c : Measured) (r : Option Recorded) (entry : Option (List Term)) (v : Frame) (m m' : RunState)
    → step_fits program (Collapse c r) ≡ true → next_coin m.coins ≡ false → Differ program.qubits v m m' → IsEntry program.qubits m.state (measured_word program.qubits c) entry
    → Differ program.qubits (followed program faults entry (next_coin m'.coins) (Collapse c r) v) (next program [] (Collapse c r) m) (next program faults (Collapse c r) m')
collapse-differ program faults c r None v m m' fits coin d is = collapse-decided program faults c r v m m' fits coin d is
collapse-differ program faults c r (Some terms) v m m' fits coin d is =
    collapse-random program faults c r terms v m m' is.1.in_state.0 fits coin d is.1.in_state.1 is.1.anticommutes

-- over a collapse
pub beside-collapse : (program : Listing) (reference after : ReferenceRun) (faults coins : List ℕ) (step : ListedStep) (rest : List ListedStep) (k runs : ℕ) (old new : LaneFrames)
    → step_fits program step ≡ true → is_collapse step ≡ true → (before : Beside program reference faults coins (step ∷ rest) k old)
    → after.records ≡ reference.records → GoneOver program step rest before.m k after.words
    → ((j : ℕ) → lane_bit j runs ≡ get_or (lane j coins) k false)
    → GoesTo old new (λ j v. followed program (lane j faults) (said_of k after.words) (lane_bit j runs) step v)
    → Beside program after faults coins rest (k + 1) new
beside-collapse program reference after faults coins step rest k runs old new fits collapse before same over coins_here goes =
    by_step step fits collapse over before.counted (before.whole ∙ sym same) (λ j. (before.shots j).whole) goes.frames
  where
    by_step : (step : ListedStep) → step_fits program step ≡ true → is_collapse step ≡ true → GoneOver program step rest before.m k after.words
        → k + collapse_count (step ∷ rest) ≡ program.collapses
        → (run_from program [] (step ∷ rest) before.m).records ≡ after.records
        → ((j : ℕ) → (run_from program (lane j faults) (step ∷ rest) (before.shots j).run).records ≡ records_of program (lane j faults) (lane j coins))
        → ((j : ℕ) → frame_in j new ≡ followed program (lane j faults) (said_of k after.words) (lane_bit j runs) step (frame_in j old))
        → Beside program after faults coins rest (k + 1) new
    by_step (One gate q) fits collapse over counted whole wholes frames = cc
    by_step (Two gate a b) fits collapse over counted whole wholes frames = cc
    by_step (Collapse c r) fits collapse over counted whole wholes frames =
        record {
          m = next program [] (Collapse c r) before.m;
          stand = over.stand;
          counted = omega (arith, counted);
          zeros = zeros_after program (Collapse c r) before.m before.zeros;
          whole = whole;
          shots = λ j.
              let shot = before.shots j in
              let coin : next_coin shot.run.coins ≡ lane_bit j runs = ap next_coin shot.coins_are ∙ next_coin-drop (lane j coins) k ∙ sym (coins_here j) in
              record {
                run = next program (lane j faults) (Collapse c r) shot.run;
                differ =
                    subst (λ v. Differ program.qubits v (next program [] (Collapse c r) before.m) (next program (lane j faults) (Collapse c r) shot.run))
                    (ap (λ b. followed program (lane j faults) (said_of k after.words) b (Collapse c r) (frame_in j old)) coin ∙ sym (frames j))
                    (collapse-differ program (lane j faults) c r (said_of k after.words) (frame_in j old) before.m shot.run fits (before.zeros 0) shot.differ over.entry);
                coins_are =
                    let more : suc k ≡ k + 1 = omega arith in
                    ap (drop 1) shot.coins_are ∙ drop-suc (lane j coins) k ∙ ap (λ i. drop i (lane j coins)) more;
                whole = wholes j;
              };
        }
    by_step (Fault f) fits collapse over counted whole wholes frames = cc
    by_step (Feedback w r) fits collapse over counted whole wholes frames = cc

-- there is room for the next step's records
pub beside-room : (program : Listing) (reference : ReferenceRun) (faults coins : List ℕ) (step : ListedStep) (rest : List ListedStep) (k : ℕ) (f : LaneFrames) → length reference.records ≡ program.records
    → Beside program reference faults coins (step ∷ rest) k f → length f.flips + length (step_records step) ≤ program.records
beside-room program reference faults coins step rest k f count before =
    omega (
      arith,
      ap length before.whole,
      count,
      length-run_from program [] (step ∷ rest) before.m,
      length-append (step_records step) (records_made rest),
      (before.shots 0).differ.records_size,
      lists.length-map f.flips (lane_bit 0),
    )
