-- Frames that are carried over steps alone: their flips are a program's records, and where no target is random they say which
-- targets differ.
use Rattle.std.proofs.Common.{◌≡◌, ℕ, ◌+◌, ◌<◌, ◌≤◌, Bool, false, List, [], ◌∷◌, length, map, None, Some, refl, sym, ap, ◌∙◌, arith, length-append}
use Rattle.std.proofs.lemmas.List as lists
use Rattle.std.proofs.lemmas.List.FromFn.{length-range_with_len}
use Rattle.bit_rows.specs.Lanes.{lane, lane_bit}
use Rattle.pauli_word.specs.Parity.{exclusive_or}
use Rattle.pauli_word.specs.States.{start_state}
use Rattle.pauli_word.specs.Words.{with_sign_changed}
use Rattle.pauli_word.proofs.Groups.{IsGroup-start}
use Rattle.step_model.specs.Frames.{Frame, zero_coins}
use Rattle.step_model.specs.Listing.{Listing, ListedStep, One, Two, Collapse, Fault, Feedback, step_records}
use Rattle.step_model.specs.Runs.{records_of, start}
use Rattle.step_model.specs.Sensitivities.{place_of}
use Rattle.step_model.specs.Targets.{difference, parities, parity, target_at, targets_of}
use Rattle.step_model.specs.WellFormed.{IsWellFormed, records_made}
use Rattle.run_laws.specs.Shifts.{carried_over, carried_with, flipped_by, flips_with}
use Rattle.run_laws.proofs.ConstancyRuns.{parity_is_constant}
use Rattle.run_laws.proofs.ShiftLists.{parity-joined}
use Rattle.run_laws.proofs.ShiftRuns.{frames_shift_runs}
use Rattle.run_laws.proofs.ShiftWords.{anticommute-none}
use Rattle.forward_sim.proofs.Differences.{differences-map}
use Rattle.frames.specs.Batches.{start_frame}
use Rattle.frames.specs.Carried.{NoneRandom, carried_frame}
use Rattle.frames.specs.LaneFrames.{LaneFrames, GoesTo, frame_in}
use Rattle.frames.specs.private.Followed.{followed}
use Rattle.frames.proofs.TargetFlips.{undone}

-- where nothing is kept of a collapse, a frame is carried and not turned
followed-none : (program : Listing) (faults : List Bool) (coin : Bool) (step : ListedStep) (v : Frame) → followed program faults None coin step v ≡ carried_with program [] faults step v
followed-none program faults coin (One gate q) v = refl
followed-none program faults coin (Two gate a b) v = refl
followed-none program faults coin (Collapse c r) v = refl
followed-none program faults coin (Fault f) v = refl
followed-none program faults coin (Feedback w r) v = refl

-- so what is left behind a step carries it on
pub carried-on : (program : Listing) (faults : List ℕ) (step : ListedStep) (rest : List ListedStep) (runs : ℕ) (old new : LaneFrames) (ends : ℕ → Frame)
    → GoesTo old new (λ j v. followed program (lane j faults) None (lane_bit j runs) step v)
    → ((j : ℕ) → carried_over program [] (lane j faults) (step ∷ rest) (frame_in j old) ≡ ends j)
    → (j : ℕ) → carried_over program [] (lane j faults) rest (frame_in j new) ≡ ends j
carried-on program faults step rest runs old new ends goes before j =
    ap (carried_over program [] (lane j faults) rest) (goes.frames j ∙ followed-none program (lane j faults) (lane_bit j runs) step (frame_in j old))
    ∙ before j

-- a frame has a flip for each record
length-carried : (program : Listing) (first second : List Bool) (step : ListedStep) (v : Frame) → length (carried_with program first second step v).records ≡ length v.records + length (step_records step)
length-carried program first second (One gate q) v = omega arith
length-carried program first second (Two gate a b) v = omega arith
length-carried program first second (Collapse c None) v = omega (arith, length-append v.records [])
length-carried program first second (Collapse c (Some r)) v = length-append v.records _
length-carried program first second (Fault f) v = omega arith
length-carried program first second (Feedback w r) v = omega arith

length-carried_over : (program : Listing) (first second : List Bool) (steps : List ListedStep) (v : Frame) → length (carried_over program first second steps v).records ≡ length v.records + length (records_made steps)
length-carried_over program first second [] v = omega arith
length-carried_over program first second (step ∷ steps) v =
    omega (
      arith,
      length-carried_over program first second steps (carried_with program first second step v),
      length-carried program first second step v,
      length-append (step_records step) (records_made steps),
    )

-- so there is room for those of the next step
pub carried-room : (program : Listing) (faults : List Bool) (step : ListedStep) (rest : List ListedStep) (f : LaneFrames) → IsWellFormed program
    → carried_over program [] faults (step ∷ rest) (frame_in 0 f) ≡ carried_frame program faults → length f.flips + length (step_records step) ≤ program.records
carried-room program faults step rest f well is =
    omega (
      arith,
      ap (λ (v : Frame). length v.records) is,
      length-carried_over program [] faults (step ∷ rest) (frame_in 0 f),
      length-carried_over program [] faults program.steps (start_frame program.qubits),
      ap length well.records_in_order,
      length-range_with_len 0 program.records,
      length-append (step_records step) (records_made rest),
      lists.length-map f.flips (lane_bit 0),
    )

module _ (program : Listing) (faults : List Bool) (well : IsWellFormed program) where
  -- the run without faults whose coins are all 0, and one with these faults that differs from it by their frame
  abbrev shifted_coins : List Bool
  shifted_coins = flipped_by (flips_with program [] faults (start_frame program.qubits) program.steps) (zero_coins program)

  shifted : records_of program faults shifted_coins ≡ flipped_by (carried_frame program faults).records (records_of program [] (zero_coins program))
  shifted =
      (frames_shift_runs program [] faults program.steps (start_frame program.qubits) (start (zero_coins program)) (start shifted_coins) well.steps_fit
      (record {
        size = lists.length-replicate program.qubits _;
        group = IsGroup-start program.qubits;
        states = λ p size. ap (λ b. start_state (with_sign_changed b p)) (sym (anticommute-none p.letters program.qubits));
        coins = refl;
        records_size = refl;
        records = refl;
      })).ends.records

  -- a target without a place differs where the frame's flips say so, whatever the coins are
  flipped-target : (coins : List Bool) (d : ℕ) → place_of program d ≡ None
      → exclusive_or (parity (target_at program d) (records_of program faults coins)) (parity (target_at program d) (records_of program [] (zero_coins program)))
      ≡ parity (target_at program d) (carried_frame program faults).records
  flipped-target coins d none =
      let named = target_at program d in
      let reference = records_of program [] (zero_coins program) in
      ap (λ b. exclusive_or b (parity named reference))
      (parity_is_constant program d well none faults coins shifted_coins
      ∙ ap (parity named) shifted
      ∙ parity-joined named (carried_frame program faults).records reference)
      ∙ undone (parity named (carried_frame program faults).records) (parity named reference)

  -- so all targets do, where none has one
  pub flipped-targets : (coins : List Bool) → NoneRandom program
      → parities program (carried_frame program faults).records ≡ difference program (records_of program faults coins) (records_of program [] (zero_coins program))
  flipped-targets coins none =
      let reference = records_of program [] (zero_coins program) in
      let first : List ℕ → Bool = λ t. parity t (records_of program faults coins) in
      let second : List ℕ → Bool = λ t. parity t reference in
      let both : List ℕ → Bool = λ t. exclusive_or (first t) (second t) in
      let flips : List ℕ → Bool = λ t. parity t (carried_frame program faults).records in
      let targets = targets_of program in
      lists.ext_get_or false (map flips targets) (map both targets) (lists.length-map targets flips ∙ sym (lists.length-map targets both))
      (λ d below.
      let within : d < length targets = omega (arith, below, lists.length-map targets flips) in
      lists.get_or-map flips targets d [] false within
      ∙ (sym (flipped-target coins d (none d within))
      ∙ sym (lists.get_or-map both targets d [] false within)))
      ∙ sym (differences-map first second targets)
