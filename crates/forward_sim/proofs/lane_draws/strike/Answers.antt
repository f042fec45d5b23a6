use Rattle.std.proofs.Common.{◌+◌}
use Rattle.forward_sim.proofs.LaneLemmas.{draws_hit, draws_missed}
use Rattle.forward_sim.proofs.lane_draws.strike.Goals as goal

pub returns-then-hit : goal.returns-then-hit
returns-then-hit c = draws_hit c.args.lane c.args.f c.args.hit c.args.faults.now c.with_bit.result c.requires.within c.if-hit.true c.with_bit.ensures

pub returns-else-hit : goal.returns-else-hit
returns-else-hit c = draws_missed c.args.lane c.args.f (c.args.f + 1) (λ k. c.args.hit) c.args.faults.now (λ k low high. c.if-hit.false)
