use Rattle.std.proofs.Common.{◌≡◌, ℕ, ◌+◌, ◌<◌, length, get_or}
use Rattle.bit_rows.specs.Lanes.{lane_bit}
use Rattle.frames.proofs.lines.take_lanes.Given as goal

-- the bytes so far hold the lanes
abbrev pub invariant-loop-index : goal.invariant-loop-index
invariant-loop-index l =
    record {
      size : length l.octets ≡ length l.words;
      lanes : (i : ℕ) → i < l.index → (j : ℕ) → j < 8 → lane_bit j (get_or l.octets i 0) ≡ lane_bit (l.first + j) (get_or l.words i 0);
    }
