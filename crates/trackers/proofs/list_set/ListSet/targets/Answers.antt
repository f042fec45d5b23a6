use Rattle.std.proofs.Common.{length, ap, sym, ◌∙◌}
use Rattle.step_model.proofs.RowLemmas.{length-row_of_set}
use Rattle.trackers.proofs.list_set.ListSet.targets.Goals as goal

pub returns : goal.returns
returns g c = sym (length-row_of_set c.self.inside.targets c.self.inside.items.items) ∙ ap length c.self.view_is
