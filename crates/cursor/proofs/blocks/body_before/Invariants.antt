use Rattle.std.proofs.Common.{suc}
use Rattle.cursor.specs.Places.{trees_at}
use Rattle.cursor.proofs.BlockLemmas.{IsWithin}
use Rattle.cursor.proofs.blocks.body_before.Given as goal

abbrev pub invariant-loop-body : goal.invariant-loop-body
invariant-loop-body g l = IsWithin l.items.items l.body l.end l.body (trees_at l.items.items (suc l.end)) l.depth

abbrev pub decreases-loop-body : goal.decreases-loop-body
decreases-loop-body g l = l.body
