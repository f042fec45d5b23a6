use Rattle.std.proofs.Common.{◌<◌, length}
use Rattle.std.specs.Prelude.{All}
use Rattle.circuit_walk.specs.NamedRecords.{records_in}
use Rattle.record_targets.specs.private.ListedTargets.{ArePutBut}
use Rattle.record_targets.proofs.putting.put_each.Given as goal

abbrev pub invariant-loop-rec : goal.invariant-loop-rec
invariant-loop-rec l =
    record {
      put : ArePutBut l.target (records_in l.records) (records_in l.left) l.fn.marks l.fn.numbers l.marks l.numbers;
      there : All (λ r. r < length l.fn.marks) (records_in l.left);
    }

abbrev pub decreases-loop-rec : goal.decreases-loop-rec
decreases-loop-rec l = length (records_in l.left)
