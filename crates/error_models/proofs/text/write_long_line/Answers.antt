use Rattle.step_model.proofs.Pushing.{Pushes-trans}
use Rattle.error_models.proofs.text.write_long_line.Goals as goal

pub returns : goal.returns
returns g c = Pushes-trans (Pushes-trans (Pushes-trans (Pushes-trans c.push.ensures c.push-2.ensures) c.push-3.ensures) c.write_targets.ensures) c.push-4.ensures
