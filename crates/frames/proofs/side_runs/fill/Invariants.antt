use Rattle.std.proofs.Common.{◌≡◌, ℕ, ◌<◌, false, length, get_or}
use Rattle.bit_rows.specs.Lanes.{lane_bit}
use Rattle.frames.specs.private.Followers.{shown_by}
use Rattle.frames.proofs.side_runs.fill.Given as goal

-- the words so far are filled
abbrev pub invariant-loop-index : goal.invariant-loop-index
invariant-loop-index g l =
    record {
      size : length l.words ≡ length l.fn.words;
      filled : (i : ℕ) → i < l.index → (j : ℕ) → j < 64 → lane_bit j (get_or l.words i 0) ≡ get_or (shown_by j l.follower) i false;
    }
