use Rattle.step_model.specs.Pushed.{Pushes}
use Rattle.std.specs.List.{flat_map, range_with_len}
use Rattle.error_models.specs.ModelText.{observable_text}
use Rattle.backward.proofs.declarations.push_declarations.Given as goal

abbrev pub invariant-loop-observable : goal.invariant-loop-observable
invariant-loop-observable g l =
    Pushes g.W.Sink.taken g.W.Sink.failures l.initial.sink l.sink l.initial.out l.out
    (flat_map observable_text (range_with_len 0 l.observable))
