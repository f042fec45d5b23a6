use Rattle.std.proofs.Common.{◌*◌, ◌-◌, ◌≤◌}
use Rattle.bit_rows.specs.private.Marks.{BlanksBelow}
use Rattle.bit_rows.specs.private.Multiplied.{MultipliesFirst}
use Rattle.bit_rows.specs.private.WordTotals.{carried_by}
use Rattle.bit_rows.proofs.multiply.multiply_blocks.Given as goal

abbrev pub invariant-loop-block : goal.invariant-loop-block
invariant-loop-block l = record {
  within : l.block ≤ l.end;
  product : MultipliesFirst l.fn.xa l.fn.za l.xb l.zb l.xa l.za (carried_by l.ones l.twos 4) (l.block * 4);
  blank : BlanksBelow l.noted l.xa l.za (l.block * 4);
}

abbrev pub decreases-loop-block : goal.decreases-loop-block
decreases-loop-block l = l.end - l.block
