use Rattle.std.proofs.Common.{◌≡◌, ◌≤◌, ◌++◌}
use Rattle.backward.specs.private.MovedTargets.{steps_before}
use Rattle.backward.proofs.moved.put_steps.Given as goal

abbrev pub invariant-loop-left : goal.invariant-loop-left
invariant-loop-left g l =
    record {
      below : l.left ≤ l.turns;
      whole : l.into.items ++ steps_before l.shift l.left l.first ≡ l.fn.into.items ++ steps_before l.shift l.turns l.first;
    }

abbrev pub decreases-loop-left : goal.decreases-loop-left
decreases-loop-left g l = l.left
