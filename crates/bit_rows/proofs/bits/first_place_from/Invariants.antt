use Rattle.std.proofs.Common.{length, ◌-◌, ◌≡◌, ℕ, ◌<◌, ◌≤◌, ◌+◌, ◌*◌, false}
use Rattle.bit_rows.specs.private.Words.{bit_in}
use Rattle.bit_rows.proofs.bits.first_place_from.Given as goal

-- the search has come to bit `low` of word i
abbrev pub invariant-loop-i : goal.invariant-loop-i
invariant-loop-i l =
    record {
      low : l.low < 64;
      after : l.start ≤ 64 * l.i + l.low;
      before : (k : ℕ) → l.start ≤ k → k < 64 * l.i + l.low → (bit_in l.first k ≡ false) × (bit_in l.second k ≡ false);
    }

abbrev pub decreases-loop-i : goal.decreases-loop-i
decreases-loop-i l = length l.first - l.i
