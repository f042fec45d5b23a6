use Rattle.std.proofs.Common.{ap, length, sym, ◌∙◌}
use Rattle.std.proofs.lemmas.List.{length-map}
use Rattle.step_model.specs.TargetSets.{row_of_set}
use Rattle.record_targets.proofs.listed_targets.ListedTargets.len.Goals as goal

pub returns : goal.returns
returns g c =
    c.len.ensures ∙ (sym (length-map c.self.inside.lists (row_of_set c.self.inside.targets)) ∙ ap length c.self.view_is)
