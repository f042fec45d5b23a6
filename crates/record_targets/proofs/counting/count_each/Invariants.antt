use Rattle.std.proofs.Common.{◌≡◌, ◌<◌, ◌+◌, ℕ, length, get_or}
use Rattle.std.specs.Prelude.{All}
use Rattle.circuit_walk.specs.NamedRecords.{records_in}
use Rattle.record_targets.specs.private.ListedTargets.{times_in}
use Rattle.record_targets.proofs.counting.count_each.Given as goal

-- what is counted, with what is left
abbrev pub invariant-loop-rec : goal.invariant-loop-rec
invariant-loop-rec l =
    record {
      counts : (r : ℕ) → r < length l.fn.counts → get_or l.counts r 0 + times_in r (records_in l.left) ≡ get_or l.fn.counts r 0 + times_in r (records_in l.named);
      there : All (λ r. r < length l.fn.counts) (records_in l.left);
    }

abbrev pub decreases-loop-rec : goal.decreases-loop-rec
decreases-loop-rec l = length (records_in l.left)
