use Rattle.unroll.specs.private.Summed.{nothing_summed, summing}
use Rattle.unroll.proofs.PassLemmas.{IsPassing}
use Rattle.unroll.proofs.totals.totals_of.Given as goal

abbrev pub invariant-loop-i : goal.invariant-loop-i
invariant-loop-i g l = IsPassing summing l.circuit nothing_summed l.i l.summing.totals l.summing.blocks.items
