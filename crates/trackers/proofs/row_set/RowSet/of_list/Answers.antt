use Rattle.std.proofs.Common.{ap, sym, ◌∙◌}
use Rattle.bit_rows.specs.Rows.{xor_rows}
use Rattle.trackers.proofs.SetLemmas.{none_before}
use Rattle.trackers.proofs.row_set.RowSet.of_list.Goals as goal

pub returns : goal.returns
returns g c =
    let list = c.args.list.now in
    c.in_ok-toggle_each.ensures.ok ∙ (ap (λ row. xor_rows row list) c.in_ok-row.ensures ∙ none_before c.targets.result list (sym c.targets.ensures))
