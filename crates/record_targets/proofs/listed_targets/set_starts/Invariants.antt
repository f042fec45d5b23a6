use Rattle.std.proofs.Common.{◌≡◌, ◌<◌, ◌≤◌, ℕ, List, length, get_or}
use Rattle.record_targets.specs.private.ListedTargets.{AreCounts, start_of}
use Rattle.record_targets.proofs.listed_targets.set_starts.Given as goal

abbrev pub invariant-loop-r : goal.invariant-loop-r
invariant-loop-r g l =
    record {
      long : length l.counts.items ≡ length l.fn.counts.items;
      starts : (whole : List ℕ) → AreCounts whole l.fn.counts.items → (k : ℕ) → k < l.r → get_or l.counts.items k 0 ≡ start_of whole k;
      start : (whole : List ℕ) → AreCounts whole l.fn.counts.items → l.start ≡ start_of whole l.r;
      left : (k : ℕ) → l.r ≤ k → get_or l.counts.items k 0 ≡ get_or l.fn.counts.items k 0;
    }
