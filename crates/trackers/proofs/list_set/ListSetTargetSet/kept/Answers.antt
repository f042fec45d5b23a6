use Rattle.std.proofs.Common.{ap, ◌∙◌}
use Rattle.std.specs.Prelude.{reverse}
use Rattle.step_model.specs.TargetSets.{members}
use Rattle.trackers.proofs.SetLemmas.{reverse_is_members}
use Rattle.trackers.proofs.list_set.ListSetTargetSet.kept.Goals as goal

pub returns : goal.returns
returns g c =
    ap reverse c.as_slice.ensures ∙ (reverse_is_members c.self.inside.targets c.self.inside.items.items c.self.invariant ∙ ap members c.self.view_is)
