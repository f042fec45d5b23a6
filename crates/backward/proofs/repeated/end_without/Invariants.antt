use Rattle.std.proofs.Common.{◌≤◌, ◌-◌, length}
use Rattle.backward.proofs.repeated.end_without.Given as goal

abbrev pub invariant-loop-target : goal.invariant-loop-target
invariant-loop-target l = l.end ≤ l.detectors

abbrev pub invariant-loop-at : goal.invariant-loop-at
invariant-loop-at l = l.end ≤ l.detectors

abbrev pub decreases-loop-at : goal.decreases-loop-at
decreases-loop-at l = length l.other - l.at
