use Rattle.error_models.specs.ModelText.{observable_text}
use Rattle.step_model.proofs.Items.{Pushes-number}
use Rattle.error_models.proofs.text.write_observables.Goals as goal

pub loop-observable-preserved : goal.loop-observable-preserved
loop-observable-preserved g c =
    Pushes-number observable_text c.loop-observable.observable c.loop-observable.invariant c.push_observable.ensures
