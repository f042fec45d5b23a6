use Rattle.std.proofs.Common.{false, arith, ◌∙◌}
use Rattle.dem_text.proofs.SumLemmas.{turned_at-past, turned_at-set}
use Rattle.dem_text.proofs.fold.turn_at.Goals as goal

pub returns-then-place-len : goal.returns-then-place-len
returns-then-place-len g c = c.flip.ensures ∙ turned_at-set c.args.bits.now c.args.place false (omega (arith, c.if-place-len.true, c.len.ensures))

pub returns-else-place-len : goal.returns-else-place-len
returns-else-place-len g c = turned_at-past c.args.bits.now c.args.place (omega (arith, c.if-place-len.false, c.len.ensures))
