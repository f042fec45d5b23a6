use Rattle.std.proofs.Common.{◌≡◌, ℕ, length}
use Rattle.bit_rows.specs.Lanes.{lane, lane_bit}
use Rattle.pauli_word.specs.Parity.{exclusive_or}
use Rattle.circuit_walk.specs.NamedRecords.{records_in}
use Rattle.step_model.specs.Targets.{parity}
use Rattle.frames.proofs.frames.Frames.parity.Given as goal

-- the records so far and those that are left make the parity
abbrev pub invariant-loop-rec : goal.invariant-loop-rec
invariant-loop-rec g l =
    (j : ℕ) → exclusive_or (lane_bit j l.odd) (parity (records_in l.left) (lane j l.self.flips)) ≡ parity (records_in l.named) (lane j l.self.flips)

abbrev pub decreases-loop-rec : goal.decreases-loop-rec
decreases-loop-rec g l = length (records_in l.left)
