use Rattle.std.proofs.Common.{◌≡◌, take}
use Rattle.backward.specs.private.MovedTargets.{moved_list}
use Rattle.backward.proofs.moved.move_list.Given as goal

abbrev pub invariant-loop-target : goal.invariant-loop-target
invariant-loop-target g l = l.into.items ≡ moved_list l.staying l.by (take l.target-index l.list)
