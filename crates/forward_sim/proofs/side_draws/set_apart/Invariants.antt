use Rattle.std.proofs.Common.{◌≡◌, ◌*◌, ◌<◌, ℕ}
use Rattle.forward_sim.specs.Drawn.{after_words}
use Rattle.forward_sim.specs.private.AllLanes.{generator_at}
use Rattle.forward_sim.proofs.side_draws.set_apart.Given as goal

-- the first generators are those of the first shots
abbrev pub invariant-loop-l : goal.invariant-loop-l
invariant-loop-l l =
    record {
      each : (k : ℕ) → k < l.l → generator_at l.generators k ≡ after_words (k * l.words) l.fn.rng;
      taken : l.next ≡ after_words (l.l * l.words) l.fn.rng;
    }
