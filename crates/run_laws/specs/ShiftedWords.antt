-- Frames that are words of the state. A word that is in a run's state, with either sign, is a frame by which the state
-- differs from itself. So if the coins from there on are changed by that frame's flips, each outcome is changed exactly
-- by its flip. And any frame by which two runs differ may be multiplied by such a word of the first. (Knill, Quantum
-- computing with realistically noisy devices, Nature 434, 39 (2005): Pauli frames.)
use Rattle.std.specs.Prelude.{◌≡◌, ◌<◌, ℕ, ◌-◌, ◌==◌, Bool, true, false, not, if◌then◌else◌, List, [], ◌∷◌, ◌++◌, length, replicate}
use Rattle.pauli_word.specs.declared.letter.Letter.{Letter}
use Rattle.pauli_word.specs.Words.{letters_product, signed}
use Rattle.step_model.specs.declared.step.Place.{Place}
use Rattle.step_model.specs.declared.step.Place.TheVariants.{Start, After}
use Rattle.step_model.specs.Frames.{Frame, begun, flips_from, flips_of}
use Rattle.step_model.specs.Listing.{Listing, ListedStep, is_collapse}
use Rattle.step_model.specs.Runs.{RunState, run_from, start}
use Rattle.step_model.specs.WellFormed.{IsWellFormed, records_made, collapse_count}
use Rattle.run_laws.specs.Shifts.{flipped_by, outcomes_from, DifferByFrame}

-- the outcomes of a run, one a collapse
abbrev pub outcomes_of : Listing → List Bool → List Bool → List Bool
outcomes_of program faults coins = outcomes_from program faults program.steps (start coins)

-- the run with the coins changed by flips has its outcomes changed by them
abbrev pub FlipsOutcomes : Listing → List Bool → List Bool → List Bool → Type 0
FlipsOutcomes program faults coins flips =
    outcomes_of program faults (flipped_by flips coins) ≡ flipped_by flips (outcomes_of program faults coins)

-- a word is, with this sign, in the state of a run after these steps, which are the program's first
abbrev pub IsInRun : Listing → List Bool → List Bool → List ListedStep → List Letter → Bool → Type 0
IsInRun program faults coins earlier v negative = (run_from program faults earlier (start coins)).state (signed v negative) ≡ true

-- the flips, one a collapse, of a frame begun as the word v between two parts of the steps
abbrev pub flips_between : ℕ → List Letter → List ListedStep → List ListedStep → List Bool
flips_between n v earlier later =
    replicate (collapse_count earlier) false ++ flips_from n (begun v (length (records_made earlier))) later

-- the law for a word of the state between any two parts of the steps
abbrev pub WordShift : Type 0
WordShift =
    (program : Listing) (faults coins : List Bool) (v : List Letter) (negative : Bool) (earlier later : List ListedStep)
    → IsWellFormed program → program.steps ≡ earlier ++ later → length v ≡ program.qubits
    → IsInRun program faults coins earlier v negative
    → FlipsOutcomes program faults coins (flips_between program.qubits v earlier later)

-- those of these steps that come after their collapse k, counted from 0; none where there is no such collapse
abbrev pub steps_past : ℕ → List ListedStep → List ListedStep
steps_past k [] = []
steps_past k (step ∷ steps) =
    if not (is_collapse step) then steps_past k steps else if k == 0 then steps else steps_past (k - 1) steps

-- the steps after a place
abbrev pub steps_after : Listing → Place → List ListedStep
steps_after program (Start q) = program.steps
steps_after program (After k) = steps_past k program.steps

-- a place is one of the program's
abbrev pub IsThere : Listing → Place → Type 0
IsThere program (Start q) = q < program.qubits
IsThere program (After k) = k < program.collapses

-- the law for a word of the state at a place
abbrev pub PlaceShift : Type 0
PlaceShift =
    (program : Listing) (faults coins : List Bool) (place : Place) (v : List Letter) (negative : Bool) (earlier : List ListedStep)
    → IsWellFormed program → IsThere program place → program.steps ≡ earlier ++ steps_after program place → length v ≡ program.qubits
    → IsInRun program faults coins earlier v negative
    → FlipsOutcomes program faults coins (flips_of program place v)

-- a frame times a word
abbrev pub multiplied_by : List Letter → Frame → Frame
multiplied_by w v = record v { word = letters_product w v.word }

-- two runs that differ by a frame differ also by its product with a word of the first run's state
abbrev pub ProductLaw : Type 0
ProductLaw =
    (n : ℕ) (v : Frame) (flips : List Bool) (m m' : RunState) (w : List Letter) (negative : Bool)
    → DifferByFrame n v flips m m' → length w ≡ n → m.state (signed w negative) ≡ true
    → DifferByFrame n (multiplied_by w v) flips m m'
