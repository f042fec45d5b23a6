use Rattle.std.proofs.Common.{◌≡◌, ◌≤◌, ◌++◌, length}
use Rattle.record_targets.specs.private.Links.{list_at}
use Rattle.record_targets.proofs.record_lists.list_from.Given as goal

abbrev pub invariant-loop-left : goal.invariant-loop-left
invariant-loop-left g l =
    record {
      within : l.left ≤ length l.links;
      rest : l.into.items ++ list_at l.links l.left ≡ list_at l.links l.place;
    }

abbrev pub decreases-loop-left : goal.decreases-loop-left
decreases-loop-left g l = l.left
