use Rattle.std.proofs.Common.{◌≡◌, ◌<◌, length}
use Rattle.proved_tests.proofs.tests.sweeps.long.many_lines.Given as goal

-- the text is kept, and there are three targets
abbrev pub invariant-loop-turn : goal.invariant-loop-turn
invariant-loop-turn l = record { kept : l.text < length l.lines.texts; targets : l.lines.targets ≡ 3 }
