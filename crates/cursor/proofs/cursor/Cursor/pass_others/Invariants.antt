use Rattle.std.proofs.Common.{◌-◌, length}
use Rattle.cursor.specs.private.Forward.{Passes}
use Rattle.cursor.proofs.cursor.Cursor.pass_others.Given as goal

abbrev pub invariant-loop-index : goal.invariant-loop-index
invariant-loop-index g l =
    record {
      passes : Passes (λ i. g.C.Choice.chosen i.operation) l.items.items l.self l.fresh (record l.self { index = l.index }) l.fresh;
    }

abbrev pub decreases-loop-index : goal.decreases-loop-index
decreases-loop-index g l = length l.items.items - l.index
