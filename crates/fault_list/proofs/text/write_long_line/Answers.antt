use Rattle.std.proofs.Common.{◌∙◌}
use Rattle.step_model.proofs.Pushing.{Pushes-trans}
use Rattle.fault_list.proofs.text.write_long_line.Goals as goal

pub returns-clause-pushed : goal.returns-clause-pushed
returns-clause-pushed g c =
    let text = rw (c.chance_text.ensures ∙ c.requires.text) at c.push-2.ensures in
    Pushes-trans (Pushes-trans (Pushes-trans (Pushes-trans (Pushes-trans c.write_number.ensures c.push.ensures) text) c.push-3.ensures) c.write_effect.ensures) c.push-4.ensures
