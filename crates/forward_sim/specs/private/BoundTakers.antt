-- What takes the bounds of a program's faults, behind the first n of them: as a list, as the greatest words below them, and as runs
-- of equal ones. (How they are kept is this project's own.)
use Rattle.std.specs.Prelude.{◌≡◌, ◌<◌, ◌++◌, ◌^◌, ◌-◌, ℕ, Bool, true, false, List, length, take}
use Rattle.step_model.specs.Listing.{Listing}
use Rattle.forward_sim.specs.Drawn.{bounds_of}
use Rattle.forward_sim.specs.declared.runs.BoundRun.{BoundRun}
use Rattle.forward_sim.specs.private.BoundRuns.{bounds_in, bounds_of_run}

-- these are the bounds of the first n faults
abbrev pub AreBounds : Listing → ℕ → List ℕ → Type 0
AreBounds program n bounds = bounds ≡ take n (bounds_of program)

-- a list of them with room for those of all faults
pub record AreListed (program : Listing) (n room : ℕ) (bounds : List ℕ) : Type 0 where
  pub room_is : room ≡ length program.faults
  pub bounds_are : AreBounds program n bounds

-- runs with the last one; or there are too many, which is never so where any number will do
pub record AreRuns (program : Listing) (n few few_at_first : ℕ) (are_many failed : Bool) (runs : List BoundRun) (last : BoundRun) : Type 0 where
  pub same : few ≡ few_at_first
  pub many : are_many ≡ true → few < 2 ^ 64 - 1
  pub bounds_are : are_many ≡ false → failed ≡ false → AreBounds program n (bounds_in runs ++ bounds_of_run last)
