use Rattle.step_model.specs.Pushed.{Pushes}
use Rattle.std.proofs.Common.{[], get_or}
use Rattle.std.specs.List.{flat_map, range_with_len}
use Rattle.error_models.specs.ModelText.{detector_text}
use Rattle.error_models.proofs.text.write_detectors.Given as goal

abbrev pub invariant-loop-detector : goal.invariant-loop-detector
invariant-loop-detector g l =
    Pushes g.W.Sink.taken g.W.Sink.failures l.fn.sink l.sink l.fn.out l.out
    (flat_map (λ d. detector_text d (get_or l.model.coordinates d [])) (range_with_len 0 l.detector))
