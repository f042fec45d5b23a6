use Rattle.std.proofs.Common.{take}
use Rattle.backward.specs.private.MovedTargets.{IsClear}
use Rattle.backward.proofs.moved.is_clear.Given as goal

abbrev pub invariant-loop-target : goal.invariant-loop-target
invariant-loop-target l = IsClear l.shift (take l.target-index l.list)
