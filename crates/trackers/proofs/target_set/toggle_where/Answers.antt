use Rattle.std.proofs.Common.{length, sym, ◌∙◌}
use Rattle.std.proofs.lemmas.Result.{on_ok_weaker}
use Rattle.step_model.specs.TargetSets.{row_of_set}
use Rattle.trackers.proofs.ColumnLemmas.{xor_where-false, xor_where-true}
use Rattle.step_model.proofs.RowLemmas.{length-row_of_set}
use Rattle.trackers.proofs.target_set.toggle_where.Goals as goal

pub returns-then-toggle-clause-ok : goal.returns-then-toggle-clause-ok
returns-then-toggle-clause-ok g c =
    let set = g.S.TargetSet.bits c.args.set.now in
    let targets = c.args.targets.now in
    rw c.if-toggle.true
    (on_ok_weaker c.toggle_all.result
    (λ h. h ∙ sym (xor_where-true set (row_of_set (length set) targets) (sym (length-row_of_set (length set) targets))))
    c.toggle_all.ensures.ok)

pub returns-else-toggle-clause-ok : goal.returns-else-toggle-clause-ok
returns-else-toggle-clause-ok g c =
    let set = g.S.TargetSet.bits c.args.set.now in
    rw c.if-toggle.false (sym (xor_where-false set (row_of_set (length set) c.args.targets.now)))
