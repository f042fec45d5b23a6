-- 64 runs of a program side by side, and what is shown of them.
-- (This project's own.)
use Rattle.std.specs.Prelude.{◌≡◌, ℕ, ◌+◌, ◌*◌, Bool, true, false, List, [], length, slice_index_or}
use Rattle.step_model.specs.Frames.{zero_coins}
use Rattle.step_model.specs.Listing.{Listing}
use Rattle.step_model.specs.Runs.{records_of}
use Rattle.step_model.specs.Targets.{difference}
use Rattle.forward_sim.specs.Drawn.{bounds_of}
use Rattle.forward_sim.specs.Shots.{ShotWords, is_tossed}
use Rattle.forward_sim.specs.declared.span.Span.{Span}
use Rattle.frames.specs.declared.side_runs.Shown.{Shown}
use Rattle.frames.specs.declared.side_runs.Shown.TheVariants.{Records, Detections}

-- the program, and the words in whose lanes stands what is shown
pub record ShownRuns : Type 0 where
  pub program : Listing
  pub shown : Shown
  pub words : List ℕ

-- how many truth values are shown of a run
abbrev pub shown_count : Shown → Listing → ℕ
shown_count Records program = program.records
shown_count Detections program = length program.detectors + length program.observables

-- what is shown of a run with these records, beside one with those
abbrev pub shown_beside : Shown → Listing → List Bool → List Bool → List Bool
shown_beside Records program records reference = records
shown_beside Detections program records reference = difference program records reference

-- what is shown of the run with these faults and coins, beside that without faults whose coins are all 0
abbrev pub shown_of : Shown → Listing → List Bool → List Bool → List Bool
shown_of shown program faults coins =
    shown_beside shown program (records_of program faults coins) (records_of program [] (zero_coins program))

-- the coins of these collapses don't count for what is shown: whatever faults happen, they change nothing of it
abbrev pub DontShow : Shown → Listing → Span → Type 0
DontShow shown program span =
    (faults first second : List Bool)
    → length first ≡ program.collapses → length second ≡ program.collapses
    → ((k : ℕ) → is_tossed span k ≡ true → slice_index_or first k false ≡ slice_index_or second k false)
    → shown_of shown program faults first ≡ shown_of shown program faults second

-- drawn shots are of the program of runs, and coins that they pass over don't count; there is room for a byte of each word and a line
pub record FitTogether (drawn : ShotWords) (runs : ShownRuns) (room : List ℕ) : Type 0 where
  pub bounds : drawn.bounds ≡ bounds_of runs.program
  pub coins : length drawn.coins ≡ runs.program.collapses
  pub passed : DontShow runs.shown runs.program drawn.passed
  pub line : length room ≡ 2 * length runs.words + 1
