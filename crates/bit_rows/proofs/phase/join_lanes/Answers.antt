use Rattle.std.proofs.Common.{◌≡◌, ◌%◌, arith, ap, ◌∙◌, sym, length}
use Rattle.bit_rows.specs.private.WordTotals.{carried, carried_by}
use Rattle.bit_rows.proofs.Carries.{carried-zero}
use Rattle.bit_rows.proofs.VectorLanes.{carried_by-zero, lanes_more}
use Rattle.bit_rows.proofs.phase.join_lanes.Goals as goal

pub loop-k-init : goal.loop-k-init
loop-k-init c = ap (λ s. s % 4) (carried-zero ∙ sym (carried_by-zero c.args.ones.now c.args.twos.now))

pub loop-k-preserved : goal.loop-k-preserved
loop-k-preserved c =
    lanes_more c.args.ones.now c.args.twos.now (carried c.loop-k.one c.loop-k.two) _ c.loop-k.k c.loop-k.invariant c.join.ensures

pub returns : goal.returns
returns c =
    let end : c.loop-k.k ≡ length c.args.ones.now = omega arith in
    c.loop-k.invariant ∙ ap (λ n. carried_by c.args.ones.now c.args.twos.now n % 4) end
