use Rattle.std.proofs.Common.{◌≡◌, drop}
use Rattle.dem_text.specs.private.Turned.{turned}
use Rattle.dem_text.proofs.flips.turn.Given as goal

abbrev pub invariant-loop-target : goal.invariant-loop-target
invariant-loop-target l = turned l.bits (drop l.target-index l.targets) ≡ turned l.fn.bits l.targets
