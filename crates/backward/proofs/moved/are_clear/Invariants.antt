use Rattle.std.proofs.Common.{take}
use Rattle.std.specs.Prelude.{All}
use Rattle.backward.specs.private.MovedTargets.{IsClear}
use Rattle.backward.proofs.moved.are_clear.Given as goal

abbrev pub invariant-loop-i : goal.invariant-loop-i
invariant-loop-i g l = All (IsClear l.shift) (take l.i l.lists)
