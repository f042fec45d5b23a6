use Rattle.std.proofs.Common.{◌≡◌, take}
use Rattle.backward.specs.private.MovedTargets.{grown_lists}
use Rattle.backward.proofs.moved.grown_lists.Given as goal

abbrev pub invariant-loop-i : goal.invariant-loop-i
invariant-loop-i g l = l.grown ≡ grown_lists l.shift l.turns (take l.i l.lists)
