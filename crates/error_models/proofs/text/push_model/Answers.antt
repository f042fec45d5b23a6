use Rattle.step_model.proofs.Pushing.{Pushes-trans}
use Rattle.error_models.proofs.text.push_model.Goals as goal

pub returns : goal.returns
returns g c = Pushes-trans (Pushes-trans c.write_lines.ensures c.write_detectors.ensures) c.write_observables.ensures
