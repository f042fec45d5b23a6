use Rattle.std.proofs.Common.{◌≤◌, length}
use Rattle.trackers.proofs.descending.tail_from.Given as goal

abbrev pub invariant-loop-place : goal.invariant-loop-place
invariant-loop-place l = record { within : l.place ≤ length l.items }

abbrev pub decreases-loop-place : goal.decreases-loop-place
decreases-loop-place l = l.place
