-- The taker that was lent is as it was left, behind all faults.
use Rattle.std.proofs.Common.{rules, subst}
use Rattle.circuit_walk.proofs.FaultNumbers.{all_before}
use Rattle.circuit_walk.proofs.faults.take_faults.Goals as goal

pub returns : goal.returns
returns g c =
    let program = c.args.program.now in
    let all = subst (λ k. g.T.FaultTaker.stands program c.args.taker.now k c.take_all.new.taker.taker.now) (all_before program.listing c.well_formed-2.ensures) c.take_all.ensures.1 in
    let same = c.take_all.ensures.0 in
    search rules
