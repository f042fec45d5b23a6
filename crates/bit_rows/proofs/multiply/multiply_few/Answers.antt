use Rattle.std.proofs.Common.{◌%◌, arith, ap}
use Rattle.bit_rows.specs.private.WordTotals.{carried}
use Rattle.bit_rows.proofs.Carries.{carried-zero}
use Rattle.bit_rows.proofs.Multiplying.{none_multiplied, word_multiplied, all_multiplied}
use Rattle.bit_rows.proofs.multiply.multiply_few.Goals as goal

pub loop-i-init : goal.loop-i-init
loop-i-init c = none_multiplied c.args.xa.now c.args.za.now c.args.xb.now c.args.zb.now _ carried-zero

pub loop-i-preserved : goal.loop-i-preserved
loop-i-preserved c =
    word_multiplied c.args.xa.now c.args.za.now c.args.xb.now c.args.zb.now c.loop-i.xa c.loop-i.za (carried c.loop-i.ones c.loop-i.twos) _ c.loop-i.i c.loop-i.invariant
    (omega arith) (omega arith) c.carry.ensures

pub returns : goal.returns
returns c =
    all_multiplied c.args.xa.now c.args.za.now c.args.xb.now c.args.zb.now c.loop-i.xa c.loop-i.za _ _ c.loop-i.i c.requires c.loop-i.invariant (omega arith)
    (ap (λ s. s % 4) c.power_held.ensures.value)
