use Rattle.std.proofs.Common.{◌≡◌, ◌++◌, take}
use Rattle.backward.specs.private.MovedTargets.{picked}
use Rattle.backward.proofs.moved.pick.Given as goal

abbrev pub invariant-loop-target : goal.invariant-loop-target
invariant-loop-target g l = l.into.items ≡ l.fn.into.items ++ picked l.low l.high l.by (take l.target-index l.list)
