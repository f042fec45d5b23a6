use Rattle.std.proofs.Common.{subst, ◌≡◌, ◌+◌, ◌%◌, arith, ap, length}
use Rattle.bit_rows.specs.private.Marks.{BlanksBelow}
use Rattle.bit_rows.specs.private.WordTotals.{carried}
use Rattle.bit_rows.proofs.Blocks.{XorsWithin-one}
use Rattle.bit_rows.proofs.Marked.{blanks_kept}
use Rattle.bit_rows.proofs.Multiplying.{word_multiplied, all_multiplied}
use Rattle.bit_rows.proofs.multiply.multiply_many.Goals as goal

pub loop-i-init : goal.loop-i-init
loop-i-init c = record { product = c.multiply_blocks-ones.ensures.product; blank = c.multiply_blocks-ones.ensures.blank }

pub loop-i-preserved : goal.loop-i-preserved
loop-i-preserved c =
    record {
      product =
          word_multiplied c.args.xa.now c.args.za.now c.args.xb.now c.args.zb.now c.loop-i.xa c.loop-i.za (carried c.loop-i.ones c.loop-i.twos) _ c.loop-i.i c.loop-i.invariant.product
          (omega arith) (omega arith) c.carry.ensures;
      blank =
          blanks_kept c.multiply_blocks-ones.result.2 c.loop-i.xa c.loop-i.za _ _ c.args.xb.now c.args.zb.now c.loop-i.i (c.loop-i.i + 1) (omega arith) c.loop-i.invariant.blank
          (XorsWithin-one c.loop-i.xa c.args.xb.now c.loop-i.i (omega arith)) (XorsWithin-one c.loop-i.za c.args.zb.now c.loop-i.i (omega arith));
    }

pub returns-clause-product : goal.returns-clause-product
returns-clause-product c =
    all_multiplied c.args.xa.now c.args.za.now c.args.xb.now c.args.zb.now c.loop-i.xa c.loop-i.za _ _ c.loop-i.i c.requires.long c.loop-i.invariant.product (omega arith)
    (ap (λ s. s % 4) c.power_held.ensures.value)

pub returns-clause-blank : goal.returns-clause-blank
returns-clause-blank c =
    let end : c.loop-i.i ≡ length c.args.xa.now = omega arith in
    subst (BlanksBelow c.multiply_blocks-ones.result.2 c.loop-i.xa c.loop-i.za) end c.loop-i.invariant.blank

pub bounds-xa-i : goal.bounds-xa-i
bounds-xa-i c = omega (arith, c.loop-i.auto.xa, c.multiply_blocks-ones.auto.xa, c.loop-i-test.true, c.requires.long.xb_long)

pub bounds-za-i : goal.bounds-za-i
bounds-za-i c = omega (arith, c.loop-i.auto.za, c.multiply_blocks-ones.auto.za, c.loop-i-test.true, c.requires.long.xb_long, c.requires.long.za_long)

pub bounds-xb-i : goal.bounds-xb-i
bounds-xb-i c = c.loop-i-test.true

pub bounds-zb-i : goal.bounds-zb-i
bounds-zb-i c = omega (arith, c.loop-i-test.true, c.requires.long.xb_long, c.requires.long.zb_long)

pub loop-i-smaller : goal.loop-i-smaller
loop-i-smaller c = omega (arith, c.loop-i-test.true)
