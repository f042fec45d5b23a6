use Rattle.std.proofs.Common.{◌<◌, length, ap, subst, sym, ◌∙◌}
use Rattle.std.specs.Prelude.{All}
use Rattle.std.proofs.lemmas.Result.{IfOk-weaker}
use Rattle.step_model.specs.TargetSets.{row_of_set}
use Rattle.step_model.proofs.RowLemmas.{length-row_of_set}
use Rattle.trackers.proofs.SetLemmas.{row_of_reversed}
use Rattle.trackers.proofs.list_set.ListSetTargetSet.put_ascending.Goals as goal

pub invariant_of-self : goal.invariant_of-self
invariant_of-self g c =
    let m = c.self.inside.targets in
    let long = sym (ap length c.self.view_is) ∙ length-row_of_set m c.self.inside.items.items in
    c.put_ascending.ensures.descends m (subst (λ n. All (λ t. t < n) c.args.targets.now) long c.requires)

pub returns-clause-put : goal.returns-clause-put
returns-clause-put g c =
    let m = c.self.inside.targets in
    let targets = c.args.targets.now in
    let long = sym (ap length c.self.view_is) ∙ length-row_of_set m c.self.inside.items.items in
    IfOk-weaker c.put_ascending.result _ _
    (λ put made is. ap (row_of_set m) (made is) ∙ (row_of_reversed m targets ∙ ap (λ n. row_of_set n targets) (sym long)))
    c.put_ascending.ensures.put
