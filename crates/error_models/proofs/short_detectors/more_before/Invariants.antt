use Rattle.std.proofs.Common.{◌≡◌, ◌≤◌, ◌+◌, ◌*◌, ◌++◌, length, drop}
use Rattle.error_models.specs.ModelText.{more_coordinates_text}
use Rattle.error_models.proofs.short_detectors.more_before.Given as goal

-- the coordinates from this one on are written
abbrev pub invariant-loop-left : goal.invariant-loop-left
invariant-loop-left l =
    record {
      before : l.left ≤ length l.coordinates;
      within : l.at ≤ l.end;
      least : l.end + l.left * 22 ≤ l.at + length l.coordinates * 22;
      written : drop l.at l.buffer ≡ more_coordinates_text (drop l.left l.coordinates) ++ drop l.end l.fn.buffer;
    }

abbrev pub decreases-loop-left : goal.decreases-loop-left
decreases-loop-left l = l.left
