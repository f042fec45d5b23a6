use Rattle.std.proofs.Common.{arith}
use Rattle.stim_parser.proofs.FrontNumberLemmas.{front-near}
use Rattle.stim_parser.proofs.front_number.short_front.Goals as goal

pub overflow_mul-value : goal.overflow_mul-value
overflow_mul-value c =
    let near = front-near c.args.text.now c.loop-i.i c.loop-i.value (omega arith) c.loop-i.invariant.value c.loop-i.invariant.digits in
    omega (arith, near)

pub overflow_add-value : goal.overflow_add-value
overflow_add-value c =
    let near = front-near c.args.text.now c.loop-i.i c.loop-i.value (omega arith) c.loop-i.invariant.value c.loop-i.invariant.digits in
    omega (arith, near)
