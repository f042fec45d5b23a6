use Rattle.std.proofs.Common.{◌≡◌, ◌*◌, ◌+◌, ap, ◌∙◌, arith}
use Rattle.trackers.proofs.RowLists.{listed_below, listed_all}
use Rattle.trackers.proofs.row_list.list_row.Goals as goal

pub loop-k-preserved : goal.loop-k-preserved
loop-k-preserved g c =
    let next : 64 * c.loop-k.k + 64 ≡ 64 * (c.loop-k.k + 1) = omega arith in
    c.in_ok-list_word.ensures ∙ ap (listed_below c.args.row.now) next

pub returns : goal.returns
returns g c = c.loop-k.invariant ∙ listed_all c.args.row.now (64 * c.loop-k.k) (omega arith)
