use Rattle.std.proofs.Common.{◌≡◌, ◌+◌, ◌%◌}
use Rattle.bit_rows.specs.private.WordTotals.{carried, words_phase}
use Rattle.bit_rows.proofs.phase.power_of_words.Given as goal

abbrev pub invariant-loop-i : goal.invariant-loop-i
invariant-loop-i l = (l.before + carried l.ones l.twos) % 4 ≡ words_phase l.xa l.za l.xb l.zb l.i % 4
