use Rattle.std.proofs.Common.{◌+◌, ◌*◌, arith}
use Rattle.bit_rows.proofs.NextPlaces.{one_in, none_before, none_unmarked, none_past}
use Rattle.bit_rows.proofs.bits.first_place_from.Goals as goal

pub returns-in-Some-clause-is_set : goal.returns-in-Some-clause-is_set
returns-in-Some-clause-is_set c =
    let inside = c.in-Some.ensures.within in
    one_in c.args.first.now c.args.second.now c.loop-i.i c.in-Some.bit (64 * c.loop-i.i + c.in-Some.bit) (omega (arith, inside.1)) (omega (arith, inside.1)) c.in-Some.ensures.is_set

pub returns-in-Some-clause-before : goal.returns-in-Some-clause-before
returns-in-Some-clause-before c =
    none_before c.args.first.now c.args.second.now c.args.start c.loop-i.i c.loop-i.low c.in-Some.bit (omega (arith, c.in-Some.ensures.within.1)) c.loop-i.invariant.before c.in-Some.ensures.before

pub loop-i-preserved : goal.loop-i-preserved
loop-i-preserved c =
    let marked = c.next_marked-i.ensures in
    let before = none_before c.args.first.now c.args.second.now c.args.start c.loop-i.i c.loop-i.low 64 (omega arith) c.loop-i.invariant.before c.in_default.ensures.none in
    record {
      low = omega arith;
      after = omega (arith, c.loop-i.invariant.after, c.loop-i.invariant.low, marked.from);
      before = λ k h below.
          none_unmarked c.args.first.now c.args.second.now c.args.marks c.args.start (c.loop-i.i + 1) c.next_marked-i.result c.requires.marks marked.unmarked
          (λ k h below. before k h (omega (arith, below))) k h (omega (arith, below));
    }

pub returns-clause-none : goal.returns-clause-none
returns-clause-none c =
    none_past c.args.first.now c.args.second.now c.args.start c.loop-i.i c.loop-i.low (omega (arith, c.requires.lengths)) (omega (arith, c.loop-i-test.false)) c.loop-i.invariant.before
