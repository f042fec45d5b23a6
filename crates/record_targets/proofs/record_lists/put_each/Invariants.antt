use Rattle.std.proofs.Common.{◌≡◌, ◌≤◌, drop, length}
use Rattle.record_targets.specs.private.Links.{IsGrown, list_at, put_before}
use Rattle.record_targets.proofs.record_lists.put_each.Given as goal

-- the targets that are left make of the list what all targets make of that at the start
abbrev pub invariant-loop-target : goal.invariant-loop-target
invariant-loop-target g l =
    record {
      grown : IsGrown l.fn.links.items l.links.items;
      placed : l.first ≤ length l.links.items;
      left : put_before (drop l.target-index l.targets) (list_at l.links.items l.first) ≡ put_before l.targets (list_at l.fn.links.items l.place);
    }
