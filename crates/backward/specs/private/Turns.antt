-- Turns of a block that repeat the one behind them, on the way back over a stretch of steps: they are gone back over at once, and the
-- lines of that turn are kept for them. (Gidney, Quantum 5, 497 (2021): errors of a block's turns are found once.)
use Rattle.std.specs.Prelude.{◌≡◌, ℕ, ◌*◌, ◌^◌, ◌<◌, ◌≤◌, false, length, reverse, Result, OnOk}
use Rattle.step_model.specs.Listing.{Listing}
use Rattle.circuit_walk.specs.Programs.{KeptProgram}
use Rattle.trackers.specs.Tracked.{Tracked}
use Rattle.backward.specs.declared.found.Found.{Found}
use Rattle.backward.specs.declared.point.Point.{Point}
use Rattle.backward.specs.declared.turns.KeptTurns.{KeptTurns}
use Rattle.backward.specs.declared.turns.Period.{Period}
use Rattle.step_model.specs.Targets.{targets_of}
use Rattle.backward.specs.private.MovedTargets.{IsShiftOf}
use Rattle.backward.specs.private.Passes.{HoldsLists, IsJudged, IsPassed, Stays}
use Rattle.backward.specs.private.Points.{IsPointOf}
use Rattle.backward.specs.private.Repeats.{AreMoved, AreRepeated, IsTurn, NonePlaced}
use Rattle.backward.specs.private.Stretches.{lines_between}
use Rattle.backward.specs.private.TurnLines.{AreClear, turn_lines}

-- a place with its words, and a later one, with what is known where the turns between repeat: feedback depends on records of its
-- own turn, and stands in none where lists are kept
pub record IsPeriod {A : Type 0} (program : KeptProgram) (found : Found A) (period : Period A) : Type 0 where
  pub point : IsPointOf program period.point
  pub later_is : period.later.walk.program ≡ program
  pub within : period.later.walk.place ≤ length program.listing.steps
  pub earlier : period.point.walk.place < period.later.walk.place
  pub shift : IsShiftOf (length program.listing.detectors) (length (targets_of program.listing)) period.shift
  pub turn : IsTurn program.listing period.point.walk.place period.later.walk.place found.keeps
  pub moved : AreMoved program.listing period.shift period.point.walk.place period.later.walk.place
  pub unsettled : found.settled ≡ false
  pub lists : HoldsLists program.listing false period.point.walk.place found.known found.lists
  pub none_latest : length found.latest.items ≡ 0
  pub none_placed : NonePlaced program.listing period.point.walk.place
  pub clear : AreClear period.shift (lines_between program.listing period.point.walk.place period.later.walk.place)
  pub repeated : AreRepeated program.listing period.shift period.low period.point.walk.place period.later.walk.place

-- what is kept at a place beside the words
pub record IsKnown {A : Type 0} (program : Listing) (place : ℕ) (found : Found A) : Type 0 where
  pub lists : HoldsLists program found.settled place found.known found.lists
  pub judged : IsJudged program found.settled place found.latest.items found.left

-- steps before a place were gone back over, to `from` at most, or none
pub record ArePassed {A T U E : Type 0} (tracked : T → Tracked) (program : KeptProgram) (from : ℕ) (old_at new_at : Point A T) (old new : Found A) (result : Result U E) : Type 0 where
  pub program_is : new_at.walk.program ≡ old_at.walk.program
  pub above : from ≤ new_at.walk.place
  pub passed : OnOk result (IsPassed program.listing new_at.walk.place (tracked new_at.tracker) new)
  pub stays : Stays old new

-- the lines of some turns are those of a turn behind them, with the numbers of earlier detectors
pub record AreTurnsOf {A : Type 0} (program : KeptProgram) (kept : KeptTurns A) : Type 0 where
  pub program_is : kept.lines.program ≡ program
  pub before : kept.start < kept.end
  pub far : kept.turns * kept.shift.by < 2 ^ 64
  pub lines : lines_between program.listing kept.start kept.end ≡ turn_lines kept.shift.staying kept.shift.by kept.turns (reverse kept.lines.lines)

-- so are those before a place, which begin at another
pub record AreKept {A : Type 0} (program : KeptProgram) (start most : ℕ) (kept : KeptTurns A) : Type 0 where
  pub turns : AreTurnsOf program kept
  pub start_is : kept.start ≡ start
  pub below : kept.end < most

-- turns before a place were gone back over at once, to another
pub record AreGonePast {A : Type 0} (program : KeptProgram) (period : Period A) (turns place : ℕ) : Type 0 where
  pub before : place < period.point.walk.place
  pub far : turns * period.shift.by < 2 ^ 64
  pub lines : lines_between program.listing place period.point.walk.place
      ≡ turn_lines period.shift.staying period.shift.by turns (lines_between program.listing period.point.walk.place period.later.walk.place)
