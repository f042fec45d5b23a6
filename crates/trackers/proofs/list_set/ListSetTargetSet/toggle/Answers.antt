use Rattle.std.proofs.Common.{false, not, length, get_or, set, ap, ◌∙◌, arith}
use Rattle.std.proofs.lemmas.Result.{on_ok_weaker}
use Rattle.step_model.specs.TargetSets.{row_of_set}
use Rattle.trackers.proofs.SetLemmas.{descends_toggled, row_of_toggled}
use Rattle.step_model.proofs.RowLemmas.{length-row_of_set}
use Rattle.trackers.proofs.list_set.ListSetTargetSet.toggle.Goals as goal

pub invariant_of-self : goal.invariant_of-self
invariant_of-self g c =
    let m = c.self.inside.targets in
    let items = c.self.inside.items.items in
    descends_toggled c.toggle_in.result m c.args.target items _ c.toggle_in.ensures.ok c.toggle_in.ensures.err
    (omega (arith, c.requires, ap length c.self.view_is, length-row_of_set m items)) c.self.invariant

pub returns-clause-ok : goal.returns-clause-ok
returns-clause-ok g c =
    let m = c.self.inside.targets in
    let items = c.self.inside.items.items in
    let t = c.args.target in
    on_ok_weaker c.toggle_in.result
    (λ h. ap (row_of_set m) (h m c.self.invariant)
    ∙ (row_of_toggled m t items (omega (arith, c.requires, ap length c.self.view_is, length-row_of_set m items))
    ∙ ap (λ row. set row t (not (get_or row t false))) c.self.view_is))
    c.toggle_in.ensures.ok
