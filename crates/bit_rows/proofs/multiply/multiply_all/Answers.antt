use Rattle.std.proofs.Common.{◌%◌, arith, ap, ◌∙◌}
use Rattle.bit_rows.specs.private.WordTotals.{carried_by}
use Rattle.bit_rows.proofs.Multiplying.{none_multiplied, block_multiplied, held_otherwise}
use Rattle.bit_rows.proofs.VectorLanes.{carried_by-zeros}
use Rattle.bit_rows.proofs.multiply.multiply_all.Goals as goal

pub loop-block-init : goal.loop-block-init
loop-block-init c = none_multiplied c.args.xa.now c.args.za.now c.args.xb.now c.args.zb.now _ (carried_by-zeros 4 4)

pub loop-block-preserved : goal.loop-block-preserved
loop-block-preserved c =
    block_multiplied c.args.xa.now c.args.za.now c.args.xb.now c.args.zb.now c.loop-block.xa c.loop-block.za c.xor_both.new.xa c.xor_both.new.za c.loop-block.ones c.loop-block.twos _ _ c.loop-block.block
    c.loop-block.invariant c.carry_block.ensures c.xor_both.ensures.x c.xor_both.ensures.z

pub returns : goal.returns
returns c =
    held_otherwise c.args.xa.now c.args.za.now c.args.xb.now c.args.zb.now c.loop-block.xa c.loop-block.za _ _ _ _ c.loop-block.invariant
    (c.join_lanes.ensures ∙ ap (λ n. carried_by c.loop-block.ones c.loop-block.twos n % 4) c.loop-block.auto.ones.0) (omega arith)
