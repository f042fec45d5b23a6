use Rattle.std.proofs.Common.{arith}
use Rattle.stim_parser.proofs.DigitLemmas.{front-below, whole_number}
use Rattle.stim_parser.proofs.digits.short_number_of.Goals as goal

pub overflow_mul-value : goal.overflow_mul-value
overflow_mul-value c =
    let below = front-below c.args.text.now c.loop-digit.digit-index c.loop-digit.value (omega arith) c.requires.short c.loop-digit.invariant.value c.loop-digit.invariant.digits in
    omega (arith, below)

pub overflow_add-value : goal.overflow_add-value
overflow_add-value c =
    let below = front-below c.args.text.now c.loop-digit.digit-index c.loop-digit.value (omega arith) c.requires.short c.loop-digit.invariant.value c.loop-digit.invariant.digits in
    omega (arith, below)

pub returns : goal.returns
returns c =
    whole_number c.args.text.now c.loop-digit.digit-index c.loop-digit.value c.requires.some c.requires.short (omega arith) c.loop-digit.invariant.value c.loop-digit.invariant.digits
