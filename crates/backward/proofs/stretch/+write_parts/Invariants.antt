use Rattle.std.proofs.Common.{◌≡◌, ◌≤◌, ◌-◌, [], length}
use Rattle.step_model.specs.Pushed.{Pushes}
use Rattle.backward.specs.private.Points.{ArePoints, IsFor, IsReady, first_place}
use Rattle.backward.specs.private.Stretches.{text_between}
use Rattle.backward.proofs.stretch.+write_parts.Given as goal

abbrev pub invariant-loop-point : goal.invariant-loop-point
invariant-loop-point g l =
    record {
      store : l.lines.program.now ≡ l.fn.lines.program.now;
      none : l.lines.text.text ≡ [];
      from : l.from ≤ l.start;
      points : ArePoints l.program l.start (first_place l.from l.fn.points.items) l.points.items;
      tracker : IsFor l.program.listing (g.T.Tracker.tracked l.at.tracker);
      ready : IsReady l.program.listing (first_place l.from l.fn.points.items) l.found;
      known : l.found.known ≡ l.fn.found.known;
      pushed : Pushes (g.W.Sink.taken) (g.W.Sink.failures) l.fn.sink l.sink l.fn.out l.out (text_between l.program.listing l.from l.start);
    }

abbrev pub decreases-loop-point : goal.decreases-loop-point
decreases-loop-point g l = length l.points.items

abbrev pub decreases-write_parts : goal.decreases-write_parts
decreases-write_parts g l = first_place l.from l.points.now.items - l.from
