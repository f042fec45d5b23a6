use Rattle.std.proofs.Common.{◌≡◌}
use Rattle.circuit_walk.specs.Programs.{KeptProgram}
use Rattle.circuit_walk.specs.private.Courses.{IsCourse, moves_behind}
use Rattle.circuit_walk.proofs.course.Course.face_step_before.Given as goal

abbrev pub invariant-loop-self : goal.invariant-loop-self
invariant-loop-self g l =
    record {
      course : (program : KeptProgram) → IsCourse program l.fn.self → IsCourse program l.self;
      place : l.self.steps ≡ l.fn.self.steps;
    }

abbrev pub decreases-loop-self : goal.decreases-loop-self
decreases-loop-self g l = moves_behind l.self
