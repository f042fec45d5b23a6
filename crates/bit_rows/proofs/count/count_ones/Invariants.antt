use Rattle.std.proofs.Common.{◌≡◌}
use Rattle.bit_rows.specs.private.WordTotals.{ones_of}
use Rattle.bit_rows.proofs.count.count_ones.Given as goal

abbrev pub invariant-loop-word : goal.invariant-loop-word
invariant-loop-word l = l.count ≡ ones_of l.words l.word-index
