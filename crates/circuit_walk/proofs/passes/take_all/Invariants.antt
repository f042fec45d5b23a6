use Rattle.std.proofs.Common.{length}
use Rattle.cursor.specs.Places.{left_of}
use Rattle.circuit_walk.specs.private.Courses.{IsPassing}
use Rattle.circuit_walk.specs.private.Walks.{is_step_maker}
use Rattle.circuit_walk.proofs.passes.take_all.Given as goal

abbrev pub invariant-loop-i : goal.invariant-loop-i
invariant-loop-i g l =
    record {
      passing : IsPassing l.program l.text l.cursor l.counts l.steps;
      stands : g.T.StepTaker.stands l.program l.fn.taker l.steps l.taker;
    }

abbrev pub decreases-loop-i : goal.decreases-loop-i
decreases-loop-i g l = length (left_of is_step_maker l.text.items.now.items l.cursor)
