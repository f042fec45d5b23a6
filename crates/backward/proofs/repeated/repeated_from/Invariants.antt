use Rattle.std.proofs.Common.{◌≡◌, ◌≤◌, ◌<◌, ◌+◌, ℕ, [], get_or, length}
use Rattle.step_model.specs.TargetSets.{members}
use Rattle.backward.specs.private.MovedTargets.{earlier_list, list_then}
use Rattle.backward.proofs.repeated.repeated_from.Given as goal

abbrev pub invariant-loop-from : goal.invariant-loop-from
invariant-loop-from g l =
    record {
      above : l.least ≤ l.from;
      below : l.from ≤ l.end;
      each : (r : ℕ) → l.from ≤ r → r < l.end → members (get_or l.lists r []) ≡ earlier_list l.shift (list_then l.lists l.end l.kept (r + length l.kept));
    }

abbrev pub decreases-loop-from : goal.decreases-loop-from
decreases-loop-from g l = l.from
