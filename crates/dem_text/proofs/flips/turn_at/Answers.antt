use Rattle.std.proofs.Common.{false}
use Rattle.dem_text.proofs.SumLemmas.{turned_at-past, turned_at-set}
use Rattle.dem_text.proofs.flips.turn_at.Goals as goal

pub returns-then-target-bits : goal.returns-then-target-bits
returns-then-target-bits c = turned_at-set c.args.bits.now c.args.target false c.if-target-bits.true

pub returns-else-target-bits : goal.returns-else-target-bits
returns-else-target-bits c = turned_at-past c.args.bits.now c.args.target c.if-target-bits.false
