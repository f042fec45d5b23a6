use Rattle.std.proofs.Common.{◌≡◌, ◌≤◌, ◌+◌, length, drop}
use Rattle.std.specs.Prelude.{reverse, vec_len, vec_capacity}
use Rattle.trackers.proofs.descending.list_ascending.Given as goal

abbrev pub invariant-loop-left : goal.invariant-loop-left
invariant-loop-left g l =
    record {
      within : l.left ≤ length l.items;
      made : l.into.items ≡ reverse (drop l.left l.items);
      room : vec_len l.into + l.left ≤ vec_capacity l.into;
    }

abbrev pub decreases-loop-left : goal.decreases-loop-left
decreases-loop-left g l = l.left
