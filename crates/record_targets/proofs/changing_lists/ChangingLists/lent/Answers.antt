use Rattle.std.proofs.Common.{◌<◌, [], length, get_or, ap, ◌∙◌}
use Rattle.step_model.specs.TargetSets.{members}
use Rattle.record_targets.proofs.ChangeLemmas.{as_long, row_unchanged}
use Rattle.record_targets.proofs.OrderLemmas.{ascending_is_members}
use Rattle.record_targets.proofs.changing_lists.ChangingLists.lent.Given.{Over}
use Rattle.record_targets.proofs.changing_lists.ChangingLists.lent.Goals as goal
use Rattle.record_targets.proofs.changing_lists.ChangingLists.lent.Goals.{After-self}

within : (g : Over) (c : After-self g) → c.args.rec < length c.self.inside.listed
within g c =
    (as_long c.self.inside.targets c.args.rec c.self.inside.listed c.self.inside.changes c.args.self.now c.self.inside.apart c.self.inside.set.items c.self.invariant c.self.view_is c.requires).0

pub get-listed-requires : goal.get-listed-requires
get-listed-requires g c = within g (goal.at.get-listed-requires g c).After-self

pub returns-then-ascends : goal.returns-then-ascends
returns-then-ascends g c =
    let listed = c.self.inside.listed in
    let rec = c.args.rec in
    let own = get_or listed rec [] in
    ascending_is_members (length own) c.get-listed.result.now (c.ascends.ensures c.if-ascends.true) c.get-listed.ensures.below
    ∙ ap members
    (c.get-listed.ensures.set
    ∙ row_unchanged c.self.inside.targets rec listed c.self.inside.changes c.args.self.now c.self.inside.apart c.self.inside.set.items c.self.invariant c.self.view_is (within g (goal.at.returns-then-ascends g c).After-self)
    (c.is_changed.ensures c.if-is_changed.false))
