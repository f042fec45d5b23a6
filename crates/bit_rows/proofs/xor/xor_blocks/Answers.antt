use Rattle.std.proofs.Common.{◌≡◌, ◌+◌, ◌*◌, ◌/◌, length, arith, subst}
use Rattle.bit_rows.specs.private.Spans.{XorsWithin}
use Rattle.bit_rows.proofs.Blocks.{XorsWithin-none, XorsWithin-join}
use Rattle.bit_rows.proofs.xor.xor_blocks.Goals as goal

pub loop-block-init : goal.loop-block-init
loop-block-init c = XorsWithin-none c.args.first.now c.args.second.now 0

pub loop-block-preserved : goal.loop-block-preserved
loop-block-preserved c =
    let next : c.loop-block.block * 8 + 8 ≡ (c.loop-block.block + 1) * 8 = omega arith in
    subst (λ high. XorsWithin c.args.first.now c.args.second.now c.xor_block.new.first 0 high) next
    (XorsWithin-join c.args.first.now c.args.second.now c.loop-block.first c.xor_block.new.first 0 (c.loop-block.block * 8) (c.loop-block.block * 8 + 8)
    (omega arith) (omega arith) c.loop-block.invariant c.xor_block.ensures)

pub returns : goal.returns
returns c =
    let end : c.loop-block.block ≡ length c.args.second.now / 8 = omega arith in
    subst (λ b. XorsWithin c.args.first.now c.args.second.now c.loop-block.first 0 (b * 8)) end c.loop-block.invariant
