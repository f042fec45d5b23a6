use Rattle.std.proofs.Common.{◌≡◌, take}
use Rattle.circuit_walk.specs.private.Placing.{added}
use Rattle.circuit_walk.proofs.coordinates.add.Given as goal

abbrev pub invariant-loop-j : goal.invariant-loop-j
invariant-loop-j l = l.numbers ≡ added l.fn.numbers (take l.j l.more)
