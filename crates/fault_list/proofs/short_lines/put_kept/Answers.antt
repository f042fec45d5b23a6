use Rattle.std.proofs.Common.{refl}
use Rattle.step_model.proofs.Pushing.{Pushes-trans}
use Rattle.fault_list.proofs.HeldLineLemmas.{all_gone}
use Rattle.fault_list.proofs.short_lines.put_kept.Goals as goal

pub returns-clause-pushed : goal.returns-clause-pushed
returns-clause-pushed g c = all_gone refl (Pushes-trans c.push.ensures c.push-2.ensures)
