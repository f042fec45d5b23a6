use Rattle.std.proofs.Common.{◌≡◌, ◌*◌, ◌%◌}
use Rattle.bit_rows.specs.private.WordTotals.{ones_of, common_ones}
use Rattle.bit_rows.proofs.parity.fold_blocks.Given as goal

abbrev pub invariant-loop-block : goal.invariant-loop-block
invariant-loop-block l = ones_of l.odd 8 % 2 ≡ common_ones l.first l.second (l.block * 8) % 2
