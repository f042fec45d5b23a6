use Rattle.std.proofs.Common.{◌≡◌, ◌*◌}
use Rattle.trackers.proofs.RowLists.{listed_below}
use Rattle.trackers.proofs.row_list.list_row.Given as goal

abbrev pub invariant-loop-k : goal.invariant-loop-k
invariant-loop-k g l = l.into.items ≡ listed_below l.row (64 * l.k)
