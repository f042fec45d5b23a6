use Rattle.std.proofs.Common.{◌≡◌, ◌<◌, ◌≤◌, ℕ, false, [], length, get_or}
use Rattle.std.specs.Prelude.{replicate}
use Rattle.record_targets.proofs.record_lists.RecordLists.anew.Given as goal

-- the sets of the records so far are as they were, and those of the others are of none
abbrev pub invariant-loop-rec : goal.invariant-loop-rec
invariant-loop-rec g l =
    record {
      long : length l.lists ≡ length l.self;
      done : (k : ℕ) → k < l.rec → get_or l.lists k [] ≡ get_or l.self k [];
      left : (k : ℕ) → l.rec ≤ k → k < length l.self → get_or l.lists k [] ≡ replicate (length (get_or l.self k [])) false;
    }
