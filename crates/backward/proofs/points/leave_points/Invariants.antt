use Rattle.std.proofs.Common.{◌≡◌, ◌<◌, ◌≤◌, false}
use Rattle.std.specs.Prelude.{All, IfSome, None}
use Rattle.backward.specs.private.Passes.{IsPassed, Stays}
use Rattle.backward.proofs.PointLemmas.{KeptOnWay, OnWay}
use Rattle.backward.proofs.points.leave_points.Given as goal

abbrev pub invariant-loop-at : goal.invariant-loop-at
invariant-loop-at g l =
    record {
      program_is : l.at.walk.program ≡ l.fn.at.walk.program;
      above : l.from ≤ l.at.walk.place;
      below : l.at.walk.place ≤ l.fn.at.walk.place;
      passed : IsPassed l.program.listing l.at.walk.place (g.T.Tracker.tracked l.at.tracker) l.found;
      stays : Stays l.fn.found l.found;
      points : OnWay l.program l.from l.fn.at.walk.place l.at.walk.place l.next l.points.items;
      behind : All (λ p. l.at.walk.place < p.walk.place) l.points.items;
      kept : IfSome l.turns (KeptOnWay l.program l.fn.at.walk.place l.at.walk.place l.points.items);
      plain : l.looking ≡ false → l.turns ≡ None;
    }

abbrev pub decreases-loop-at : goal.decreases-loop-at
decreases-loop-at g l = l.at.walk.place
