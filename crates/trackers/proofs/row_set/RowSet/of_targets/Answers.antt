use Rattle.std.proofs.Common.{◌<◌, false, length, ap, ap₂, subst, sym, ◌∙◌}
use Rattle.std.specs.Prelude.{All}
use Rattle.std.proofs.lemmas.List.{length-replicate}
use Rattle.bit_rows.specs.Rows.{xor_rows}
use Rattle.step_model.specs.TargetSets.{row_of_set}
use Rattle.step_model.proofs.RowLemmas.{length-row_of_set}
use Rattle.trackers.proofs.SetLemmas.{none_before}
use Rattle.trackers.proofs.row_set.RowSet.of_targets.Goals as goal

pub toggle_down-requires : goal.toggle_down-requires
toggle_down-requires g c =
    let long = ap length c.in_ok-row.ensures ∙ (length-replicate c.targets.result false ∙ c.targets.ensures) in
    subst (λ n. All (λ t. t < n) c.args.targets.now) (sym long) c.requires

pub returns : goal.returns
returns g c =
    let targets = c.args.targets.now in
    let count = length c.args.none.now in
    let long = ap length c.in_ok-row.ensures ∙ (length-replicate c.targets.result false ∙ c.targets.ensures) in
    c.in_ok-toggle_down.ensures.ok
    ∙ (ap₂ (λ row n. xor_rows row (row_of_set n targets)) c.in_ok-row.ensures long
    ∙ none_before c.targets.result (row_of_set count targets) (length-row_of_set count targets ∙ sym c.targets.ensures))
