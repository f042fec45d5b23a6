use Rattle.std.proofs.Common.{◌≡◌, ◌<◌, length}
use Rattle.std.specs.Prelude.{All}
use Rattle.circuit_walk.specs.NamedRecords.{records_in}
use Rattle.pauli_word.specs.Parity.{exclusive_or}
use Rattle.forward_sim.specs.private.Answers.{differ_in}
use Rattle.forward_sim.proofs.difference.differs.Given as goal

-- the records so far and those that are left make both parities
abbrev pub invariant-loop-rec : goal.invariant-loop-rec
invariant-loop-rec g l =
    record {
      made : exclusive_or l.differ (differ_in l.records l.reference (records_in l.left)) ≡ differ_in l.records l.reference (records_in l.named);
      there : All (λ r. r < length l.records) (records_in l.left);
      there_too : All (λ r. r < length l.reference) (records_in l.left);
    }

abbrev pub decreases-loop-rec : goal.decreases-loop-rec
decreases-loop-rec g l = length (records_in l.left)
