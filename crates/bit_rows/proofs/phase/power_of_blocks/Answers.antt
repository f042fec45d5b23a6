use Rattle.std.proofs.Common.{◌≡◌, ◌+◌, ◌*◌, ◌/◌, ◌%◌, arith, ap, ◌∙◌, sym, length}
use Rattle.bit_rows.specs.private.WordTotals.{carried_by, words_phase}
use Rattle.bit_rows.proofs.Carries.{words_phase-zero}
use Rattle.bit_rows.proofs.VectorLanes.{carried_by-zeros, block_more}
use Rattle.bit_rows.proofs.phase.power_of_blocks.Goals as goal

pub loop-block-init : goal.loop-block-init
loop-block-init c =
    ap (λ s. s % 4) (carried_by-zeros 4 4 ∙ sym (words_phase-zero c.args.xa.now c.args.za.now c.args.xb.now c.args.zb.now))

pub loop-block-preserved : goal.loop-block-preserved
loop-block-preserved c =
    let next : c.loop-block.block * 4 + 4 ≡ (c.loop-block.block + 1) * 4 = omega arith in
    block_more c.args.xa.now c.args.za.now c.args.xb.now c.args.zb.now c.loop-block.ones c.loop-block.twos _ _ (c.loop-block.block * 4) c.loop-block.invariant c.carry_block.ensures
    ∙ ap (λ n. words_phase c.args.xa.now c.args.za.now c.args.xb.now c.args.zb.now n % 4) next

pub returns : goal.returns
returns c =
    let end : c.loop-block.block * 4 ≡ length c.args.xa.now / 4 * 4 = omega arith in
    c.power_of_lanes.ensures
    ∙ ap (λ n. carried_by c.loop-block.ones c.loop-block.twos n % 4) c.loop-block.auto.ones.0
    ∙ c.loop-block.invariant
    ∙ ap (λ n. words_phase c.args.xa.now c.args.za.now c.args.xb.now c.args.zb.now n % 4) end
