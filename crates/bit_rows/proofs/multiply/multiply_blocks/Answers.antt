use Rattle.std.proofs.Common.{◌≡◌, ◌*◌, ◌+◌, ◌/◌, ◌%◌, length, arith, ap, ◌∙◌, subst}
use Rattle.bit_rows.specs.private.Marks.{BlanksBelow}
use Rattle.bit_rows.specs.private.WordTotals.{carried_by}
use Rattle.bit_rows.proofs.Marked.{blanks_none, blanks_more, unmarked_both}
use Rattle.bit_rows.proofs.Multiplying.{none_multiplied, block_multiplied, words_skipped, held_otherwise}
use Rattle.bit_rows.proofs.VectorLanes.{carried_by-zeros}
use Rattle.bit_rows.proofs.multiply.multiply_blocks.Goals as goal

pub returns-then-trailing_ones-xb-clause-blank : goal.returns-then-trailing_ones-xb-clause-blank
returns-then-trailing_ones-xb-clause-blank c = blanks_none c.multiply_all-ones.new.xa c.multiply_all-ones.new.za (length c.args.xb.now / 4 * 4)

-- the blocks before the first that has a mark
pub loop-block-init : goal.loop-block-init
loop-block-init c =
    let first = c.marked_block-block in
    record {
      within = first.ensures.within;
      product =
          words_skipped c.args.xa.now c.args.za.now c.args.xb.now c.args.zb.now c.args.xa.now c.args.za.now _ 0 (first.result * 4) (omega arith)
          (λ k h l. unmarked_both c.args.marks c.args.xb.now c.args.zb.now k (λ i. (c.type_inv.xb i).fits) (λ i. (c.type_inv.zb i).fits) c.requires.marks (first.ensures.unmarked k h l))
          (none_multiplied c.args.xa.now c.args.za.now c.args.xb.now c.args.zb.now _ (carried_by-zeros 4 4));
      blank = blanks_none c.args.xa.now c.args.za.now (first.result * 4);
    }

-- a block, and those before the next that has a mark
pub loop-block-preserved : goal.loop-block-preserved
loop-block-preserved c =
    let made = c.multiply_block-emptied in
    let next = c.marked_block-block-in-loop-block in
    let block = c.loop-block.block in
    record {
      within = next.ensures.within;
      product =
          words_skipped c.args.xa.now c.args.za.now c.args.xb.now c.args.zb.now made.new.xa made.new.za _ ((block + 1) * 4) (next.result * 4) (omega (arith, next.ensures.from))
          (λ k h l. unmarked_both c.args.marks c.args.xb.now c.args.zb.now k (λ i. (c.type_inv.xb i).fits) (λ i. (c.type_inv.zb i).fits) c.requires.marks (next.ensures.unmarked k h l))
          (block_multiplied c.args.xa.now c.args.za.now c.args.xb.now c.args.zb.now c.loop-block.xa c.loop-block.za made.new.xa made.new.za c.loop-block.ones c.loop-block.twos _ _ block
          c.loop-block.invariant.product made.ensures.power made.ensures.x made.ensures.z);
      blank = λ k h e.
          let noted = blanks_more c.loop-block.noted c.mark_block_where-noted.result c.loop-block.xa c.loop-block.za made.new.xa made.new.za c.args.xb.now c.args.zb.now block
          made.result.2 c.loop-block.invariant.blank made.ensures.x made.ensures.z made.ensures.emptied c.mark_block_where-noted.ensures k h e in
          (omega (arith, noted.0, next.ensures.from), noted.1, noted.2);
    }

pub returns-clause-product : goal.returns-clause-product
returns-clause-product c =
    held_otherwise c.args.xa.now c.args.za.now c.args.xb.now c.args.zb.now c.loop-block.xa c.loop-block.za _ _ _ _ c.loop-block.invariant.product
    (c.join_lanes-one.ensures ∙ ap (λ n. carried_by c.loop-block.ones c.loop-block.twos n % 4) c.loop-block.auto.ones.0) (omega (arith, c.loop-block.invariant.within))

pub returns-clause-blank : goal.returns-clause-blank
returns-clause-blank c =
    let end : c.loop-block.block ≡ length c.args.xb.now / 4 = omega (arith, c.loop-block.invariant.within) in
    subst (λ b. BlanksBelow c.loop-block.noted c.loop-block.xa c.loop-block.za (b * 4)) end c.loop-block.invariant.blank
