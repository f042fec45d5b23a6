use Rattle.std.proofs.Common.{◌≡◌, length}
use Rattle.proved_tests.proofs.tests.calls.many_targets.toggle_span.Given as goal

abbrev pub invariant-loop-target : goal.invariant-loop-target
invariant-loop-target l = length l.set ≡ length l.fn.set
