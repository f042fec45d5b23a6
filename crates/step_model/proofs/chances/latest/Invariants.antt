use Rattle.std.proofs.Common.{◌≤◌, length}
use Rattle.step_model.proofs.chances.latest.Given as goal

abbrev pub invariant-loop-left : goal.invariant-loop-left
invariant-loop-left l = l.left ≤ length l.texts

abbrev pub decreases-loop-left : goal.decreases-loop-left
decreases-loop-left l = l.left
