use Rattle.std.proofs.Common.{length, ap, sym, ◌∙◌}
use Rattle.std.proofs.lemmas.List.{length-reverse}
use Rattle.step_model.specs.TargetSets.{members}
use Rattle.trackers.proofs.CountLemmas.{members_counted}
use Rattle.trackers.proofs.SetLemmas.{reverse_is_members}
use Rattle.trackers.proofs.list_set.ListSetTargetSet.count.Goals as goal

pub returns : goal.returns
returns g c =
    let items = c.self.inside.items.items in
    c.len.ensures.value
    ∙ (sym (length-reverse items)
    ∙ (ap length (reverse_is_members c.self.inside.targets items c.self.invariant ∙ ap members c.self.view_is) ∙ sym (members_counted c.args.self.now)))
