use Rattle.std.proofs.Common.{[], get_or}
use Rattle.error_models.specs.ModelText.{detector_text}
use Rattle.step_model.proofs.Items.{Pushes-number}
use Rattle.error_models.proofs.text.write_detectors.Goals as goal

pub loop-detector-preserved : goal.loop-detector-preserved
loop-detector-preserved g c =
    Pushes-number (λ d. detector_text d (get_or c.args.model.now.coordinates d [])) c.loop-detector.detector
    c.loop-detector.invariant (rw c.coordinates.ensures at c.push_detector.ensures)
