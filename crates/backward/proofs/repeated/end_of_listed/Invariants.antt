use Rattle.std.proofs.Common.{◌≤◌}
use Rattle.backward.proofs.repeated.end_of_listed.Given as goal

abbrev pub invariant-loop-i : goal.invariant-loop-i
invariant-loop-i g l = l.end ≤ l.detectors

abbrev pub invariant-loop-target : goal.invariant-loop-target
invariant-loop-target g l = l.end ≤ l.detectors
