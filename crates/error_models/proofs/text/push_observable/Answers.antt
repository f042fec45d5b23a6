use Rattle.step_model.proofs.Pushing.{Pushes-trans}
use Rattle.error_models.proofs.text.push_observable.Goals as goal

pub returns : goal.returns
returns g c = Pushes-trans (Pushes-trans c.push.ensures c.write_number.ensures) c.push-2.ensures
