use Rattle.std.proofs.Common.{ap, ◌∙◌}
use Rattle.step_model.specs.TargetSets.{row_of_set}
use Rattle.step_model.proofs.RowLemmas.{row_of_no_set}
use Rattle.trackers.proofs.list_set.ListSet.none.Goals as goal

pub returns : goal.returns
returns g c = ap (row_of_set c.args.targets) c.new.ensures.items ∙ row_of_no_set c.args.targets
