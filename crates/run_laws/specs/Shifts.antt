-- Two runs that differ by a frame. Between two steps they differ by the frame v where a word is in the second state
-- exactly where the word, its sign changed if it anticommutes with v, is in the first. Let the coins of the second run be
-- those of the first, changed where a collapse has a flip. Then the runs differ by the frame carried forward, and each
-- outcome is changed exactly by its flip. The runs may have different faults: a word applied in one run and not in the
-- other multiplies the frame, and a record that is flipped in one run and not in the other is changed by that too. (A
-- collapse is the projective measurement inside a measurement or a reset; its coin is the outcome where that is random.)
-- (Knill, Quantum computing with realistically noisy devices, Nature 434, 39 (2005): Pauli frames.)
use Rattle.std.specs.Prelude.{◌≡◌, ℕ, Bool, if◌then◌else◌, List, [], ◌∷◌, ◌++◌, length, drop, Option, None, Some}
use Rattle.std.specs.List.{AllPass}
use Rattle.pauli_word.specs.Parity.{exclusive_or}
use Rattle.pauli_word.specs.declared.letter.Letter.{Letter}
use Rattle.pauli_word.specs.Words.{Signed, anticommute, with_sign_changed}
use Rattle.step_model.specs.Frames.{Frame, carried, flips_from}
use Rattle.step_model.specs.Listing.{ListedStep, Collapse, Fault, Recorded, measured_word, Listing, fault_word, is_collapse}
use Rattle.pauli_word.specs.States.{State, outcome}
use Rattle.pauli_word.specs.Groups.{IsGroup}
use Rattle.step_model.specs.Runs.{RunState, next_coin, happens, flip_happens, next, run_from}
use Rattle.step_model.specs.Sensitivities.{cleared, multiplied, collapse_word}
use Rattle.step_model.specs.WellFormed.{step_fits}

-- truth values, each changed where its flip is 1: those past the flips stay, and those missing count as 0
abbrev pub flipped_by : List Bool → List Bool → List Bool
flipped_by [] values = values
flipped_by (flip ∷ flips) values = exclusive_or flip (next_coin values) ∷ flipped_by flips (drop 1 values)

-- the outcomes of a run over these steps, one a collapse
abbrev pub outcomes_from : Listing → List Bool → List ListedStep → RunState → List Bool
outcomes_from program faults [] m = []
outcomes_from program faults (step ∷ steps) m =
    (if is_collapse step then outcome m.state (collapse_word program.qubits step) (next_coin m.coins) ∷ [] else [])
    ++ outcomes_from program faults steps (next program faults step m)

-- whether the records of a collapse of w differ, as a list of one where it makes a record
abbrev pub record_flip_with : List Bool → List Bool → Option Recorded → List Letter → List Letter → List Bool
record_flip_with first second None w v = []
record_flip_with first second (Some r) w v =
    exclusive_or (anticommute v w) (exclusive_or (flip_happens first r.flip) (flip_happens second r.flip)) ∷ []

-- a frame after a step, where these faults happen in the first run and those in the second
abbrev pub carried_with : Listing → List Bool → List Bool → ListedStep → Frame → Frame
carried_with program first second (Fault f) v =
    record v { word = multiplied (exclusive_or (happens first f) (happens second f)) (fault_word program f) v.word }
carried_with program first second (Collapse c r) v =
    record {
      word = cleared c v.word;
      records = v.records ++ record_flip_with first second r (measured_word program.qubits c) v.word;
    }
carried_with program first second step v = carried program.qubits step v

-- a frame after these steps
abbrev pub carried_over : Listing → List Bool → List Bool → List ListedStep → Frame → Frame
carried_over program first second [] v = v
carried_over program first second (step ∷ steps) v =
    carried_over program first second steps (carried_with program first second step v)

-- the flip of a step, as a list of one where it is a collapse
abbrev pub flip_at : ℕ → Frame → ListedStep → List Bool
flip_at n v step = if is_collapse step then anticommute v.word (collapse_word n step) ∷ [] else []

-- the flips of the collapses among these steps
abbrev pub flips_with : Listing → List Bool → List Bool → Frame → List ListedStep → List Bool
flips_with program first second v [] = []
flips_with program first second v (step ∷ steps) =
    flip_at program.qubits v step ++ flips_with program first second (carried_with program first second step v) steps

-- two states of n qubits differ by a frame
abbrev pub IsShifted : ℕ → List Letter → State → State → Type 0
IsShifted n v s t = (p : Signed) → length p.letters ≡ n → t p ≡ s (with_sign_changed (anticommute p.letters v) p)

-- two runs, each between two steps, differ by a frame: their coins to come differ by `flips`, and their records so far as
-- the frame says. The words of the first state form a group, as they do in every run
pub record DifferByFrame (n : ℕ) (v : Frame) (flips : List Bool) (m m' : RunState) : Type 0 where
  pub size : length v.word ≡ n
  pub group : IsGroup n m.state
  pub states : IsShifted n v.word m.state m'.state
  pub coins : m'.coins ≡ flipped_by flips m.coins
  pub records_size : length v.records ≡ length m.records
  pub records : m'.records ≡ flipped_by v.records m.records

-- how the runs end after these steps: each outcome changed by its flip, and the runs different by the frame carried over
-- the steps
pub record IsShift (program : Listing) (first second : List Bool) (steps : List ListedStep) (v : Frame) (m m' : RunState) : Type 0 where
  pub outcomes :
      outcomes_from program second steps m' ≡ flipped_by (flips_with program first second v steps) (outcomes_from program first steps m)
  pub ends :
      DifferByFrame program.qubits (carried_over program first second steps v) []
      (run_from program first steps m) (run_from program second steps m')

-- so do any two runs that differ by a frame, over steps that fit the program
abbrev pub ShiftLaw : Type 0
ShiftLaw =
    (program : Listing) (first second : List Bool) (steps : List ListedStep) (v : Frame) (m m' : RunState)
    → AllPass (step_fits program) steps
    → DifferByFrame program.qubits v (flips_with program first second v steps) m m'
    → IsShift program first second steps v m m'

-- where the same faults happen in both runs, a frame is carried as if none did
pub record SameFaults (program : Listing) (faults : List Bool) (v : Frame) : Type 0 where
  pub carried : (step : ListedStep) → carried_with program faults faults step v ≡ carried program.qubits step v
  pub flips : (steps : List ListedStep) → flips_with program faults faults v steps ≡ flips_from program.qubits v steps

-- so it is for all faults and frames
abbrev pub SameFaultsLaw : Type 0
SameFaultsLaw = (program : Listing) (faults : List Bool) (v : Frame) → SameFaults program faults v
