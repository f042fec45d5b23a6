use Rattle.std.proofs.Common.{◌≡◌, map, take}
use Rattle.backward.specs.private.MovedTargets.{earlier_list}
use Rattle.backward.proofs.moved.are_earlier.Given as goal

abbrev pub invariant-loop-i : goal.invariant-loop-i
invariant-loop-i g l = take l.i l.lists ≡ map (earlier_list l.shift) (take l.i l.later)
