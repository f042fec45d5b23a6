use Rattle.std.proofs.Common.{◌≡◌}
use Rattle.backward.specs.private.Passes.{IsPassed, Stays}
use Rattle.backward.specs.private.Segments.{AreSegments}
use Rattle.backward.proofs.segments.leave_segments.Given as goal

abbrev pub invariant-loop-segments : goal.invariant-loop-segments
invariant-loop-segments g l =
    record {
      program_is : l.at.walk.program ≡ l.program;
      passed : IsPassed l.program.listing l.at.walk.place (g.T.Tracker.tracked l.at.tracker) l.found;
      stays : Stays l.fn.found l.found;
      segments : AreSegments l.program l.at.walk.place l.fn.at.walk.place l.segments.items;
    }

abbrev pub decreases-loop-segments : goal.decreases-loop-segments
decreases-loop-segments g l = l.at.walk.place
