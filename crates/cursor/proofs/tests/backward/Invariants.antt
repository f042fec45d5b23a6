use Rattle.std.proofs.Common.{length}
use Rattle.cursor.specs.Places.{StandsIn, before_of}
use Rattle.cursor.proofs.tests.backward.Given as goal

abbrev pub invariant-loop-index : goal.invariant-loop-index
invariant-loop-index g l = StandsIn (λ i. g.C.Choice.chosen i.operation) l.items.items l.cursor

abbrev pub decreases-loop-index : goal.decreases-loop-index
decreases-loop-index g l = length (before_of (λ i. g.C.Choice.chosen i.operation) l.items.items l.cursor)
