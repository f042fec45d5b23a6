use Rattle.std.proofs.Common.{false, length, ap, sym, ◌∙◌}
use Rattle.std.specs.Prelude.{replicate}
use Rattle.step_model.specs.TargetSets.{row_of_set}
use Rattle.step_model.proofs.RowLemmas.{row_of_no_set, length-row_of_set}
use Rattle.trackers.proofs.list_set.ListSetTargetSet.clear.Goals as goal

pub returns : goal.returns
returns g c =
    let m = c.self.inside.targets in
    ap (row_of_set m) c.empty.ensures
    ∙ (row_of_no_set m ∙ ap (λ n. replicate n false) (sym (sym (ap length c.self.view_is) ∙ length-row_of_set m c.self.inside.items.items)))
