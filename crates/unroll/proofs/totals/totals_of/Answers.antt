use Rattle.std.proofs.Common.{refl, subst, sym, arith}
use Rattle.stim_parser.specs.Kept.{item_in}
use Rattle.unroll.specs.private.Summed.{AreTotals, nothing_summed, summing}
use Rattle.unroll.proofs.PassLemmas.{passing-first, passing-can, passing-next, passing-done}
use Rattle.unroll.proofs.SumLemmas.{summed}
use Rattle.unroll.proofs.totals.totals_of.Goals as goal

pub loop-i-init : goal.loop-i-init
loop-i-init g c = rw (c.none.ensures, c.new.ensures) (passing-first summing c.args.circuit.now nothing_summed c.fits.ensures)

pub pass-requires : goal.pass-requires
pass-requires g c =
    passing-can summing c.args.circuit.now nothing_summed c.loop-i.i c.loop-i.summing.totals c.loop-i.summing.blocks.items (item_in c.item.result) c.loop-i.invariant c.item.ensures

pub loop-i-preserved : goal.loop-i-preserved
loop-i-preserved g c =
    passing-next summing c.args.circuit.now nothing_summed c.loop-i.i _ c.loop-i.summing.totals c.loop-i.summing.blocks.items _ _ (item_in c.item.result) c.loop-i.invariant c.item.ensures c.pass.ensures refl

pub returns : goal.returns
returns g c =
    subst (AreTotals c.args.circuit.now)
    (sym (passing-done summing c.args.circuit.now nothing_summed c.loop-i.i c.loop-i.summing.totals c.loop-i.summing.blocks.items c.loop-i.invariant (omega arith)))
    (summed c.args.circuit.now c.fits.ensures.fit)
