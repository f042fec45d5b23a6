-- An undoer of steps that is lent a place inside an instruction, and the place to which it has gone back.
-- (How steps are handed out is this project's own.)
use Rattle.std.specs.Prelude.{◌≡◌, ◌<◌, ◌+◌, ℕ, Result}
use Rattle.circuit_walk.specs.declared.course.Course.{Course}
use Rattle.circuit_walk.specs.Programs.{KeptProgram}
use Rattle.circuit_walk.specs.Undoers.{IsBackAt}
use Rattle.circuit_walk.specs.private.Courses.{IsCourse}

-- it has undone a step, or some, before a place
pub record HasGoneBack {U A V E : Type 0} (holds : KeptProgram → U → ℕ → U → Type 0) (keeps : KeptProgram → U → U → Type 0) (program : KeptProgram) (old new : U) (place earlier : Course A) (result : Result V E) : Type 0 where
  pub course : IsCourse program earlier
  pub back : earlier.steps < place.steps
  pub undone : (begun : U) → holds program begun place.steps old → IsBackAt holds keeps program begun earlier.steps new result

-- it has undone one
pub record HasUndoneOne {U A V E : Type 0} (holds : KeptProgram → U → ℕ → U → Type 0) (keeps : KeptProgram → U → U → Type 0) (program : KeptProgram) (old new : U) (place earlier : Course A) (result : Result V E) : Type 0 where
  pub gone : HasGoneBack holds keeps program old new place earlier result
  pub one : place.steps ≡ earlier.steps + 1
  pub same : earlier.here.operation ≡ place.here.operation
