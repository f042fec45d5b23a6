use Rattle.std.proofs.Common.{◌≡◌, ◌≤◌, length, drop}
use Rattle.error_models.proofs.texts.is_same.Given as goal

abbrev pub invariant-loop-left : goal.invariant-loop-left
invariant-loop-left l =
    record {
      long : length l.first ≡ length l.second;
      within : l.left ≤ length l.first;
      same : drop l.left l.first ≡ drop l.left l.second;
    }

abbrev pub decreases-loop-left : goal.decreases-loop-left
decreases-loop-left l = l.left
