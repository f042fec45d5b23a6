-- A taker of steps that is lent a place inside an instruction, and the place to which it has gone on.
-- (How steps are handed out is this project's own.)
use Rattle.std.specs.Prelude.{◌≡◌, ◌<◌, ℕ}
use Rattle.circuit_walk.specs.declared.course.Course.{Course}
use Rattle.circuit_walk.specs.Programs.{KeptProgram}
use Rattle.circuit_walk.specs.private.Courses.{IsCourse}

-- a taker stands at a place inside an instruction
pub record IsTakingAt {T A : Type 0} (holds : KeptProgram → T → ℕ → T → Type 0) (program : KeptProgram) (taker : T) (place : Course A) : Type 0 where
  pub course : IsCourse program place
  pub stands : (begun : T) × holds program begun place.steps taker

-- it has gone on to another place of the same program
pub record HasGoneOn {T A : Type 0} (holds : KeptProgram → T → ℕ → T → Type 0) (program : KeptProgram) (old new : T) (place later : Course A) : Type 0 where
  pub course : IsCourse program later
  pub stands : (begun : T) → holds program begun place.steps old → holds program begun later.steps new

-- it has taken a step, or some, of an instruction
pub record HasTakenSome {T A : Type 0} (holds : KeptProgram → T → ℕ → T → Type 0) (program : KeptProgram) (old new : T) (place later : Course A) : Type 0 where
  pub gone : HasGoneOn holds program old new place later
  pub on : place.steps < later.steps
  pub same : later.here.operation ≡ place.here.operation
