use Rattle.std.proofs.Common.{◌≡◌, ◌-◌, length}
use Rattle.stim_parser.specs.declared.operation.Operation.TheVariants.{QubitReset}
use Rattle.circuit_walk.specs.private.Courses.{course_at}
use Rattle.circuit_walk.specs.private.Takings.{HasGoneOn}
use Rattle.circuit_walk.proofs.operations.take_resets.Given as goal

abbrev pub invariant-loop-inside : goal.invariant-loop-inside
invariant-loop-inside g l =
    record {
      gone : HasGoneOn g.T.StepTaker.stands l.program l.fn.taker l.taker (course_at l.text l.cursor l.fn.inside) (course_at l.text l.cursor l.inside);
      operation : l.inside.here.operation ≡ QubitReset l.letter;
    }

abbrev pub decreases-loop-inside : goal.decreases-loop-inside
decreases-loop-inside g l = length l.program.listing.steps - l.inside.steps
