use Rattle.std.proofs.Common.{◌≡◌, ◌<◌, ◌≤◌}
use Rattle.circuit_walk.specs.private.Takings.{HasGoneOn}
use Rattle.circuit_walk.proofs.course.Course.undo_some.Given as goal

abbrev pub invariant-loop : goal.invariant-loop
invariant-loop g l =
    record {
      gone : HasGoneOn g.U.StepUndoer.stands l.program l.fn.undoer l.undoer l.fn.self l.self;
      facing : 0 < l.self.here.at;
      operation : l.self.here.operation ≡ l.operation;
      above : l.to < l.self.steps;
      within : l.self.steps ≤ l.fn.self.steps;
    }

abbrev pub decreases-loop : goal.decreases-loop
decreases-loop g l = l.self.steps
