use Rattle.std.proofs.Common.{ap, ◌∙◌}
use Rattle.std.specs.Prelude.{reverse}
use Rattle.std.proofs.lemmas.Result.{on_ok_weaker}
use Rattle.step_model.specs.TargetSets.{members}
use Rattle.trackers.proofs.SetLemmas.{reverse_is_members}
use Rattle.trackers.proofs.list_set.ListSetTargetSet.list.Goals as goal

pub returns : goal.returns
returns g c =
    on_ok_weaker c.list_ascending.result
    (λ h. h ∙ (ap reverse c.as_slice.ensures ∙ (reverse_is_members c.self.inside.targets c.self.inside.items.items c.self.invariant ∙ ap members c.self.view_is)))
    c.list_ascending.ensures
