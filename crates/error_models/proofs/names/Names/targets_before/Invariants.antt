use Rattle.std.proofs.Common.{◌≡◌, ◌≤◌, ◌+◌, ◌*◌, ◌++◌, length, drop}
use Rattle.error_models.specs.ModelText.{targets_text}
use Rattle.error_models.proofs.names.Names.targets_before.Given as goal

-- the targets from this one on are written
abbrev pub invariant-loop-left : goal.invariant-loop-left
invariant-loop-left g l =
    record {
      before : l.left ≤ length l.targets;
      within : l.at ≤ l.end;
      least : l.end + l.left * 8 ≤ l.at + length l.targets * 8;
      written : drop l.at l.buffer ≡ targets_text l.self.detectors (drop l.left l.targets) ++ drop l.end l.fn.buffer;
    }

abbrev pub decreases-loop-left : goal.decreases-loop-left
decreases-loop-left g l = l.left
