-- Two runs that differ by a frame, over the steps that are left.
use Rattle.std.proofs.Common.{◌≡◌, Bool, true, List, [], ◌∷◌, ◌++◌, refl, ap, ap₂, ◌∙◌, None, Some}
use Rattle.std.proofs.lemmas.List.Elements.{All-head, All-tail}
use Rattle.pauli_word.specs.declared.letter.Letter.{Letter}
use Rattle.pauli_word.specs.Words.{anticommute}
use Rattle.pauli_word.specs.Parity.{exclusive_or}
use Rattle.pauli_word.proofs.Parities.{exclusive_or_self, exclusive_or-false}
use Rattle.step_model.specs.Frames.{Frame, carried, flips_from}
use Rattle.step_model.specs.Listing.{ListedStep, One, Two, Collapse, Fault, Feedback, measured_word, Listing, fault_word}
use Rattle.step_model.specs.Runs.{RunState, happens, flip_happens, next}
use Rattle.step_model.specs.Sensitivities.{cleared, multiplied}
use Rattle.run_laws.specs.Shifts.{flipped_by, outcomes_from, carried_with, flip_at, flips_with, DifferByFrame, IsShift, ShiftLaw, SameFaultsLaw}
use Rattle.step_model.specs.WellFormed.{step_fits}
use Rattle.run_laws.proofs.ShiftSteps.{next-differ, outcome-next}
use Rattle.step_model.proofs.StateIsGroup.{length-measured}

-- a frame of its parts
abbrev pub frame_of : List Letter → List Bool → Frame
frame_of word records = record { word = word; records = records }

-- the outcomes of a step and of those after it
step-outcomes : (program : Listing) (first second : List Bool) (step : ListedStep) (steps : List ListedStep) (v : Frame) (rest : List Bool) (m m' : RunState)
    → step_fits program step ≡ true
    → DifferByFrame program.qubits v (flip_at program.qubits v step ++ rest) m m'
    → outcomes_from program second steps (next program second step m') ≡ flipped_by rest (outcomes_from program first steps (next program first step m))
    → outcomes_from program second (step ∷ steps) m' ≡ flipped_by (flip_at program.qubits v step ++ rest) (outcomes_from program first (step ∷ steps) m)
step-outcomes program first second (One gate q) steps v rest m m' fits differ later = later
step-outcomes program first second (Two gate a b) steps v rest m m' fits differ later = later
step-outcomes program first second (Collapse c r) steps v rest m m' fits differ later =
    ap₂ (λ x xs. x ∷ xs) (outcome-next program.qubits v (measured_word program.qubits c) rest m m' (length-measured program c r fits) differ) later
step-outcomes program first second (Fault f) steps v rest m m' fits differ later = later
step-outcomes program first second (Feedback w r) steps v rest m m' fits differ later = later

pub frames_shift_runs : ShiftLaw
frames_shift_runs program first second [] v m m' fit differ = record { outcomes = refl; ends = differ }
frames_shift_runs program first second (step ∷ steps) v m m' fit differ =
    let w = carried_with program first second step v in
    let rest = flips_with program first second w steps in
    let here : step_fits program step ≡ true = All-head (λ x. step_fits program x ≡ true) step steps fit in
    let after : DifferByFrame program.qubits w rest (next program first step m) (next program second step m') =
    next-differ program first second step v rest m m' here differ in
    let shift : IsShift program first second steps w (next program first step m) (next program second step m') =
    frames_shift_runs program first second steps w (next program first step m) (next program second step m') (All-tail (λ x. step_fits program x ≡ true) step steps fit) after in
    record { outcomes = step-outcomes program first second step steps v rest m m' here differ shift.outcomes; ends = shift.ends }

pub same-carried : (program : Listing) (faults : List Bool) (v : Frame) (step : ListedStep) → carried_with program faults faults step v ≡ carried program.qubits step v
same-carried program faults v (One gate q) = refl
same-carried program faults v (Two gate a b) = refl
same-carried program faults v (Collapse c None) = refl
same-carried program faults v (Collapse c (Some r)) =
    let flip = anticommute v.word (measured_word program.qubits c) in
    ap (λ b. frame_of (cleared c v.word) (v.records ++ b ∷ []))
    (ap (exclusive_or flip) (exclusive_or_self (flip_happens faults r.flip)) ∙ exclusive_or-false flip)
same-carried program faults v (Fault f) = ap (λ b. frame_of (multiplied b (fault_word program f) v.word) v.records) (exclusive_or_self (happens faults f))
same-carried program faults v (Feedback w r) = refl

pub same-flips : (program : Listing) (faults : List Bool) (v : Frame) (steps : List ListedStep) → flips_with program faults faults v steps ≡ flips_from program.qubits v steps
same-flips program faults v [] = refl
same-flips program faults v (step ∷ steps) =
    ap (λ flips. flip_at program.qubits v step ++ flips)
    (ap (λ w. flips_with program faults faults w steps) (same-carried program faults v step) ∙ same-flips program faults (carried program.qubits step v) steps)

pub same_faults : SameFaultsLaw
same_faults program faults v = record { carried = same-carried program faults v; flips = same-flips program faults v }
