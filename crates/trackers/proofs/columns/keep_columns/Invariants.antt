use Rattle.std.proofs.Common.{◌≡◌, take}
use Rattle.trackers.specs.private.Transposed.{lists_of_each}
use Rattle.trackers.proofs.columns.keep_columns.Given as goal

abbrev pub invariant-loop-column : goal.invariant-loop-column
invariant-loop-column g l = l.lists ≡ lists_of_each (take l.column-index l.columns)
