use Rattle.std.proofs.Common.{◌≡◌, ◌*◌}
use Rattle.forward_sim.specs.Drawn.{after_words, word_at}
use Rattle.forward_sim.specs.private.LaneDraws.{DrawsInto}
use Rattle.forward_sim.proofs.lane_draws.draw_lane.Given as goal

-- two words were taken for each pair so far
abbrev pub invariant-loop-pair : goal.invariant-loop-pair
invariant-loop-pair g l =
    record {
      drawn : DrawsInto l.lane 0 (2 * l.pair) (λ k. g.D.WordDraw.hits l.draw k (word_at l.fn.rng k)) l.fn.words l.words;
      taken : l.here ≡ after_words (2 * l.pair) l.fn.rng;
    }
