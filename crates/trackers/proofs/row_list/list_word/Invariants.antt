use Rattle.std.proofs.Common.{◌*◌}
use Rattle.std.specs.Prelude.{vec_len, vec_capacity}
use Rattle.trackers.proofs.RowLists.{IsUnderWay}
use Rattle.trackers.proofs.row_list.list_word.Given as goal

abbrev pub invariant-loop-lane : goal.invariant-loop-lane
invariant-loop-lane g l = IsUnderWay l.row (64 * l.k) l.rest l.into.items (vec_len l.into) (vec_capacity l.into)

-- a word without one of its ones is less
abbrev pub decreases-loop-lane : goal.decreases-loop-lane
decreases-loop-lane g l = l.rest
