use Rattle.std.proofs.Common.{◌≡◌, length}
use Rattle.proved_tests.proofs.tests.calls.bits.row_of.Given as goal

abbrev pub invariant-loop-i : goal.invariant-loop-i
invariant-loop-i l = length l.row ≡ l.n
