use Rattle.bit_rows.specs.private.Marks.{BlanksBelow}
use Rattle.bit_rows.specs.private.Multiplied.{MultipliesFirst}
use Rattle.bit_rows.specs.private.WordTotals.{carried}
use Rattle.bit_rows.proofs.multiply.multiply_many.Given as goal

abbrev pub invariant-loop-i : goal.invariant-loop-i
invariant-loop-i l = record {
  product : MultipliesFirst l.fn.xa l.fn.za l.xb l.zb l.xa l.za (carried l.ones l.twos) l.i;
  blank : BlanksBelow l.noted l.xa l.za l.i;
}
