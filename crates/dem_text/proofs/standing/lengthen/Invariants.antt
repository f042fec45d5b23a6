use Rattle.std.proofs.Common.{◌≡◌, ◌-◌, length}
use Rattle.dem_text.specs.private.Offsets.{padded}
use Rattle.dem_text.proofs.standing.lengthen.Given as goal

abbrev pub invariant-loop-offset : goal.invariant-loop-offset
invariant-loop-offset l = padded l.fn.axes l.offset.items ≡ padded l.fn.axes l.initial.offset.items

abbrev pub decreases-loop-offset : goal.decreases-loop-offset
decreases-loop-offset l = l.fn.axes - length l.offset.items
