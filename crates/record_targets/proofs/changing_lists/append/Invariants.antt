use Rattle.std.proofs.Common.{◌≡◌, ◌++◌, take}
use Rattle.record_targets.proofs.changing_lists.append.Given as goal

abbrev pub invariant-loop-target : goal.invariant-loop-target
invariant-loop-target g l = l.into.items ≡ l.fn.into.items ++ take l.target-index l.targets
