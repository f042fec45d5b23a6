use Rattle.std.proofs.Common.{◌≡◌, ◌≤◌, ◌++◌, length, drop}
use Rattle.error_models.specs.ModelText.{targets_text}
use Rattle.error_models.proofs.lines_text.LinesText.put_targets.Given as goal

-- the targets from this one on are there
abbrev pub invariant-loop-left : goal.invariant-loop-left
invariant-loop-left g l =
    record {
      within : l.left ≤ length l.targets;
      names : l.self-inside.names ≡ record { detectors = l.fn.self.detectors; targets = l.fn.self.targets };
      texts : l.self-inside.texts.items ≡ l.fn.self.texts;
      text : l.self-inside.block.text ++ l.self-inside.full ≡ targets_text l.fn.self.detectors (drop l.left l.targets) ++ l.fn.self.text;
    }

abbrev pub decreases-loop-left : goal.decreases-loop-left
decreases-loop-left g l = l.left
