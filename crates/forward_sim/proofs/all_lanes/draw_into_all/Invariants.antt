use Rattle.std.proofs.Common.{◌≡◌, ◌++◌, length, take, drop, map}
use Rattle.forward_sim.specs.Drawn.{after_words}
use Rattle.forward_sim.proofs.AllLaneLemmas.{LanesSoFar}
use Rattle.forward_sim.proofs.all_lanes.draw_into_all.Given as goal

-- the first lanes are drawn
abbrev pub invariant-loop-lane : goal.invariant-loop-lane
invariant-loop-lane g l =
    record {
      lanes : LanesSoFar l.lane (length l.fn.words) (g.D.WordDraw.hits l.draw) l.fn.generators l.words;
      generators : l.generators ≡ map (after_words (length l.fn.words)) (take l.lane l.fn.generators) ++ drop l.lane l.fn.generators;
    }
