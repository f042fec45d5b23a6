use Rattle.std.specs.Prelude.{reverse}
use Rattle.std.proofs.Common.{take}
use Rattle.error_models.specs.ModelText.{targets_text}
use Rattle.error_models.proofs.HeldTextLemmas.{EndsIn-trans}
use Rattle.error_models.proofs.lines_text.LinesText.put_reversed.Goals as goal

pub returns-in_err-put_targets-clause-kept : goal.returns-in_err-put_targets-clause-kept
returns-in_err-put_targets-clause-kept g c =
    EndsIn-trans (targets_text c.args.self.now.detectors (reverse (take c.loop-target.target-index c.args.targets.now)), c.loop-target.invariant.text) c.put_targets.ensures.kept
