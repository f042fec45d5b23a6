use Rattle.std.proofs.Common.{◌≡◌, ◌≤◌, ◌<◌, ◌-◌, ℕ, [], get_or, length}
use Rattle.step_model.specs.TargetSets.{members}
use Rattle.backward.proofs.repeated.kept_lists.Given as goal

abbrev pub invariant-loop-rec : goal.invariant-loop-rec
invariant-loop-rec g l =
    record {
      count : length l.kept ≡ l.rec - l.from;
      each : (r : ℕ) → l.from ≤ r → r < l.rec → get_or l.kept (r - l.from) [] ≡ members (get_or l.lists r []);
    }
