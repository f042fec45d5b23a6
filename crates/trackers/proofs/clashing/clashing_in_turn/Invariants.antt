use Rattle.std.proofs.Common.{◌≡◌, ℕ, ◌<◌, false, length, drop, get_or}
use Rattle.pauli_word.specs.Parity.{exclusive_or}
use Rattle.pauli_word.specs.Words.{anticommute}
use Rattle.step_model.specs.Listing.{word_of_terms}
use Rattle.trackers.specs.private.Transposed.{word_at}
use Rattle.trackers.proofs.clashing.clashing_in_turn.Given as goal

-- for each target, the terms so far and those that are left make all
abbrev pub invariant-loop-term : goal.invariant-loop-term
invariant-loop-term g l =
    record {
      long : length (g.S.TargetSet.bits l.set) ≡ length (g.S.TargetSet.bits l.fn.set);
      spare_long : length (g.S.TargetSet.bits l.spare) ≡ length (g.S.TargetSet.bits l.fn.spare);
      each : (t : ℕ) → t < length (g.S.TargetSet.bits l.set)
          → exclusive_or (get_or (g.S.TargetSet.bits l.set) t false) (anticommute (word_at l.columns t) (word_of_terms (length l.columns) (drop l.term-index l.terms)))
          ≡ anticommute (word_at l.columns t) (word_of_terms (length l.columns) l.terms);
    }
