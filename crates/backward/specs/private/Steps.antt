-- What going back over one step leaves. (This project's own.)
use Rattle.std.specs.Prelude.{◌≡◌, ◌<◌, ◌≤◌, ◌+◌, ℕ, List, Option, Result, OnOk, reverse}
use Rattle.step_model.specs.declared.step.Term.{Term}
use Rattle.step_model.specs.ErrorModels.{ErrorLine}
use Rattle.step_model.specs.Listing.{Listing}
use Rattle.circuit_walk.specs.Programs.{KeptProgram}
use Rattle.circuit_walk.specs.declared.step.FaultName.{FaultName}
use Rattle.backward.specs.declared.found.Found.{Found}
use Rattle.backward.specs.declared.point.Point.{Point}
use Rattle.trackers.specs.Tracked.{Tracked}
use Rattle.backward.specs.private.Collapses.{members_at, undone_collapse}
use Rattle.backward.specs.private.Passes.{IsPassed, Stays}
use Rattle.backward.specs.private.Stretches.{Gives, flip_line, lines_at, lines_between}

-- what is kept is that of going back to a place of a program, which a walk goes over, and whose lines a store takes
pub record StandsAt {A T L : Type 0} (tracked : T → Tracked) (kept : L → KeptProgram) (program : KeptProgram) (place : ℕ) (at : Point A T) (found : Found A) (lines : L) : Type 0 where
  pub program_is : at.walk.program ≡ program
  pub store : kept lines ≡ program
  pub passed : IsPassed program.listing place (tracked at.tracker) found

-- the step right after a place was gone back over: the words are those before it, and so is what is kept
pub record IsUndone {A T U E : Type 0} (tracked : T → Tracked) (program : Listing) (place : ℕ) (to : T) (old new : Found A) (result : Result U E) : Type 0 where
  pub passed : OnOk result (IsPassed program place (tracked to) new)
  pub stays : Stays old new

-- and its lines were given to a store, of type L. These functions read the program whose lines it takes, and which it holds.
pub record IsGoneOver {A T L U E : Type 0} (tracked : T → Tracked) (kept : L → KeptProgram) (holds : L → List ErrorLine → Type 0) (program : Listing) (place : ℕ) (to : T) (old new : Found A) (before after : L) (result : Result U E) : Type 0 where
  pub undone : IsUndone tracked program place to old new result
  pub lines : OnOk result (Gives (holds before) (holds after) (lines_at program place))
  pub store : kept after ≡ kept before

-- so were all steps from another place down to it, and what the store holds was held before their lines
pub record IsUndoing {A T L : Type 0} (tracked : T → Tracked) (kept : L → KeptProgram) (holds : L → List ErrorLine → Type 0) (program : KeptProgram) (from place : ℕ) (to : T) (old new : Found A) (before after : L) : Type 0 where
  pub below : place ≤ from
  pub passed : IsPassed program.listing place (tracked to) new
  pub stays : Stays old new
  pub lines : Gives (holds before) (holds after) (reverse (lines_between program.listing place from))
  pub store : kept after ≡ kept before
  pub program_is : kept before ≡ program

-- steps right before a place, to another at most, were gone back over
pub record AreGoneOver {A T L U E : Type 0} (tracked : T → Tracked) (kept : L → KeptProgram) (holds : L → List ErrorLine → Type 0) (program : Listing) (most place : ℕ) (from to : Point A T) (old new : Found A) (before after : L) (result : Result U E) : Type 0 where
  pub program_is : to.walk.program ≡ from.walk.program
  pub above : most ≤ to.walk.place
  pub below : to.walk.place < place
  pub passed : OnOk result (IsPassed program to.walk.place (tracked to.tracker) new)
  pub stays : Stays old new
  pub lines : OnOk result (Gives (holds before) (holds after) (reverse (lines_between program to.walk.place place)))
  pub store : kept after ≡ kept before

-- the words were taken back over a collapse with a record, where it has one, and the line of the fault that flips it was given
pub record IsTakenBack {A L U E : Type 0} (kept : L → KeptProgram) (holds : L → List ErrorLine → Type 0) (program : KeptProgram) (terms : List Term) (reset rec : Option ℕ) (flip : Option FaultName) (from to : Tracked) (old new : Found A) (before after : L) (result : Result U E) : Type 0 where
  pub words : OnOk result (to ≡ undone_collapse (members_at old.lists rec) terms reset from)
  pub lines : OnOk result (Gives (holds before) (holds after) (flip_line program flip (members_at old.lists rec)))
  pub store : kept after ≡ kept before
  pub lists : OnOk result (new.lists ≡ old.lists)
  pub settled : new.settled ≡ old.settled
  pub keeps : new.keeps ≡ old.keeps
  pub known : new.known ≡ old.known
  pub latest : new.latest ≡ old.latest
  pub left : new.left ≡ old.left
