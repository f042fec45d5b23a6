use Rattle.std.proofs.Common.{◌≤◌, ◌-◌, length}
use Rattle.forward_sim.specs.private.AllLanes.{DrawnUpTo}
use Rattle.forward_sim.proofs.all_lanes.draw_pieces.Given as goal

-- the pieces so far are drawn
abbrev pub invariant-loop-start : goal.invariant-loop-start
invariant-loop-start g l =
    record {
      within : l.start ≤ length l.fn.words;
      drawn : DrawnUpTo l.start (length l.fn.words) (g.D.WordDraw.hits l.draw) l.fn.generators l.words l.generators;
    }

abbrev pub decreases-loop-start : goal.decreases-loop-start
decreases-loop-start g l = length l.fn.words - l.start
