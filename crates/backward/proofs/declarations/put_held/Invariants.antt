use Rattle.std.proofs.Common.{◌≡◌, ◌≤◌, ◌+◌, ◌-◌, length}
use Rattle.backward.specs.private.HeldDetectors.{lines_text}
use Rattle.backward.proofs.declarations.put_held.Given as goal

-- the lines from this one on are put
abbrev pub invariant-loop-left : goal.invariant-loop-left
invariant-loop-left g l =
    record {
      within : l.left ≤ length l.held;
      room : l.left ≤ l.lines.room;
      text : l.lines.text ≡ lines_text l.program.listing.coordinates (l.from + l.left) (length l.held - l.left);
    }

abbrev pub decreases-loop-left : goal.decreases-loop-left
decreases-loop-left g l = l.left
