use Rattle.std.proofs.Common.{◌≡◌, ◌%◌}
use Rattle.bit_rows.specs.private.WordTotals.{word_ones, common_ones}
use Rattle.bit_rows.proofs.parity.has_odd_common_ones.Given as goal

abbrev pub invariant-loop-i : goal.invariant-loop-i
invariant-loop-i l = word_ones l.odd % 2 ≡ common_ones l.first l.second l.i % 2
