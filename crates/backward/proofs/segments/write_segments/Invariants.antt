use Rattle.std.proofs.Common.{◌≡◌, [], length}
use Rattle.backward.specs.private.Points.{IsFor, IsReady}
use Rattle.backward.proofs.SegmentLemmas.{IsWrittenTo}
use Rattle.backward.proofs.segments.write_segments.Given as goal

abbrev pub invariant-loop-segment : goal.invariant-loop-segment
invariant-loop-segment g l =
    record {
      store : l.lines.program.now ≡ l.fn.lines.program.now;
      none : l.lines.text.text ≡ [];
      tracker : IsFor l.program.listing (g.T.Tracker.tracked l.at.tracker);
      ready : IsReady l.program.listing l.cut l.found;
      written : IsWrittenTo g.W.Sink.taken g.W.Sink.failures l.program l.cut l.segments.items l.fn.sink l.sink l.fn.out l.out;
    }

abbrev pub decreases-loop-segment : goal.decreases-loop-segment
decreases-loop-segment g l = length l.segments.items
