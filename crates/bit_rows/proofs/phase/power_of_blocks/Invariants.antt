use Rattle.std.proofs.Common.{◌≡◌, ◌*◌, ◌%◌}
use Rattle.bit_rows.specs.private.WordTotals.{carried_by, words_phase}
use Rattle.bit_rows.proofs.phase.power_of_blocks.Given as goal

abbrev pub invariant-loop-block : goal.invariant-loop-block
invariant-loop-block l = carried_by l.ones l.twos 4 % 4 ≡ words_phase l.xa l.za l.xb l.zb (l.block * 4) % 4
