use Rattle.step_model.proofs.Pushing.{Pushes-trans}
use Rattle.fault_list.proofs.text.write_coins.Goals as goal

pub returns : goal.returns
returns g c = Pushes-trans (Pushes-trans c.push.ensures c.write_number.ensures) c.push-2.ensures
