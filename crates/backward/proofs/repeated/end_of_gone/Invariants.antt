use Rattle.std.proofs.Common.{◌≤◌}
use Rattle.backward.proofs.repeated.end_of_gone.Given as goal

abbrev pub invariant-loop-i : goal.invariant-loop-i
invariant-loop-i g l = l.end ≤ l.detectors
