use Rattle.std.proofs.Common.{◌≡◌, ◌%◌}
use Rattle.bit_rows.specs.private.WordTotals.{carried, carried_by}
use Rattle.bit_rows.proofs.phase.join_lanes.Given as goal

abbrev pub invariant-loop-k : goal.invariant-loop-k
invariant-loop-k l = carried l.one l.two % 4 ≡ carried_by l.ones l.twos l.k % 4
