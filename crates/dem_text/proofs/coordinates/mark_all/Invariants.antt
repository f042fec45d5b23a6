use Rattle.std.proofs.Common.{◌≡◌, drop, map}
use Rattle.dem_text.specs.private.Marked.{marked}
use Rattle.dem_text.specs.Shifts.{shifted_target}
use Rattle.dem_text.proofs.coordinates.mark_all.Given as goal

abbrev pub invariant-loop-target : goal.invariant-loop-target
invariant-loop-target l =
    marked l.mark l.marks (map (shifted_target l.shift) (drop l.target-index l.targets)) ≡ marked l.mark l.fn.marks (map (shifted_target l.shift) l.targets)
