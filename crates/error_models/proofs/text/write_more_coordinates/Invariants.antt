use Rattle.step_model.specs.Pushed.{Pushes}
use Rattle.std.proofs.Common.{take}
use Rattle.error_models.specs.ModelText.{more_coordinates_text}
use Rattle.error_models.proofs.text.write_more_coordinates.Given as goal

abbrev pub invariant-loop-coordinate : goal.invariant-loop-coordinate
invariant-loop-coordinate g l =
    Pushes g.W.Sink.taken g.W.Sink.failures l.fn.sink l.sink l.fn.out l.out
    (more_coordinates_text (take l.coordinate-index l.coordinates))
