use Rattle.std.proofs.Common.{◌≡◌, ◌++◌, take}
use Rattle.std.specs.Prelude.{reverse}
use Rattle.error_models.specs.ModelText.{targets_text}
use Rattle.error_models.proofs.lines_text.LinesText.put_reversed.Given as goal

-- the targets before this one are there
abbrev pub invariant-loop-target : goal.invariant-loop-target
invariant-loop-target g l =
    record {
      detectors : l.self.detectors ≡ l.fn.self.detectors;
      targets : l.self.targets ≡ l.fn.self.targets;
      texts : l.self.texts ≡ l.fn.self.texts;
      text : l.self.text ≡ targets_text l.fn.self.detectors (reverse (take l.target-index l.targets)) ++ l.fn.self.text;
    }
