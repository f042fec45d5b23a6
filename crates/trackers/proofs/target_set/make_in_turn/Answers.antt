use Rattle.std.proofs.Common.{◌<◌, false, length, ap, ap₂, subst, sym, ◌∙◌}
use Rattle.std.specs.Prelude.{All}
use Rattle.std.proofs.lemmas.List.{length-replicate}
use Rattle.std.proofs.lemmas.Result.{on_ok_weaker}
use Rattle.bit_rows.specs.Rows.{xor_rows}
use Rattle.step_model.specs.TargetSets.{row_of_set}
use Rattle.trackers.proofs.SetLemmas.{none_before}
use Rattle.step_model.proofs.RowLemmas.{length-row_of_set}
use Rattle.trackers.proofs.target_set.make_in_turn.Goals as goal

pub toggle_down-requires : goal.toggle_down-requires
toggle_down-requires g c =
    let count = length (g.S.TargetSet.bits c.args.set.now) in
    subst (λ n. All (λ t. t < n) c.args.targets.now) (sym (ap length c.clear.ensures ∙ length-replicate count false)) c.requires

pub returns-clause-ok : goal.returns-clause-ok
returns-clause-ok g c =
    let count = length (g.S.TargetSet.bits c.args.set.now) in
    let targets = c.args.targets.now in
    let long = ap length c.clear.ensures ∙ length-replicate count false in
    on_ok_weaker c.toggle_down.result
    (λ h. h
    ∙ (ap₂ (λ row n. xor_rows row (row_of_set n targets)) c.clear.ensures long
    ∙ none_before count (row_of_set count targets) (length-row_of_set count targets)))
    c.toggle_down.ensures.ok
