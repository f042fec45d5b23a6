use Rattle.std.proofs.Common.{arith}
use Rattle.bit_rows.proofs.NextPlaces.{none_from, bit_from}
use Rattle.bit_rows.proofs.bits.first_bit_from.Goals as goal

pub returns-then-later-eq0-clause-none : goal.returns-then-later-eq0-clause-none
returns-then-later-eq0-clause-none c = λ j h below. none_from c.args.word c.args.start c.if-later-eq0.true j h

pub returns-clause-within : goal.returns-clause-within
returns-clause-within c =
    let found = bit_from c.args.word c.args.start c.ranges.word.fits (omega (arith, c.if-later-eq0.false)) (omega (arith, c.ranges.word.fits)) in
    (omega arith, found.0)

pub returns-clause-is_set : goal.returns-clause-is_set
returns-clause-is_set c =
    (bit_from c.args.word c.args.start c.ranges.word.fits (omega (arith, c.if-later-eq0.false)) (omega (arith, c.ranges.word.fits))).1

pub returns-clause-before : goal.returns-clause-before
returns-clause-before c =
    (bit_from c.args.word c.args.start c.ranges.word.fits (omega (arith, c.if-later-eq0.false)) (omega (arith, c.ranges.word.fits))).2
