use Rattle.std.proofs.Common.{◌<◌, length, ap, ap₂, subst, sym, ◌∙◌}
use Rattle.std.specs.Prelude.{All}
use Rattle.std.proofs.lemmas.Result.{on_ok_weaker}
use Rattle.bit_rows.specs.Rows.{xor_rows}
use Rattle.step_model.specs.TargetSets.{row_of_set}
use Rattle.step_model.proofs.RowLemmas.{length-row_of_set}
use Rattle.trackers.proofs.SetLemmas.{each_below}
use Rattle.trackers.proofs.list_set.ListSet.toggle_each.Goals as goal

pub toggle_down-requires : goal.toggle_down-requires
toggle_down-requires g c =
    let m = c.self.inside.targets in
    let items = c.self.inside.items.items in
    let long = sym (length-row_of_set m items) ∙ (ap length c.self.view_is ∙ sym c.requires) in
    subst (λ n. All (λ t. t < n) c.as_slice.result.now) long (subst (All (λ t. t < m)) (sym c.as_slice.ensures) (each_below m items c.self.invariant))

pub returns-clause-ok : goal.returns-clause-ok
returns-clause-ok g c =
    let m = c.self.inside.targets in
    let long = c.requires ∙ (sym (ap length c.self.view_is) ∙ length-row_of_set m c.self.inside.items.items) in
    on_ok_weaker c.toggle_down.result (λ h. h ∙ ap (xor_rows c.args.row.now) (ap₂ row_of_set long c.as_slice.ensures ∙ c.self.view_is)) c.toggle_down.ensures.ok
