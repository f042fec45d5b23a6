use Rattle.std.proofs.Common.{◌≡◌, ◌++◌, drop, map}
use Rattle.dem_text.specs.private.Marked.{list_numbered}
use Rattle.dem_text.proofs.coordinates.stood_for.Given as goal

abbrev pub invariant-loop-mark : goal.invariant-loop-mark
invariant-loop-mark g l = l.found ++ map (list_numbered l.lists) (drop l.mark-index l.marks) ≡ map (list_numbered l.lists) l.marks
