use Rattle.std.proofs.Common.{◌≡◌, ◌≤◌, ◌<◌, ◌+◌, ◌-◌, ℕ, [], length, drop}
use Rattle.std.specs.Prelude.{All}
use Rattle.record_targets.proofs.ApartLemmas.{merged}
use Rattle.record_targets.proofs.changing_lists.put_toggled.Given as goal

-- what is merged, and what is left of both
abbrev pub invariant-loop-i : goal.invariant-loop-i
invariant-loop-i g l =
    record {
      first : l.i ≤ length l.set;
      second : l.j ≤ length l.targets;
      parity : (t : ℕ) → merged l.into.items (drop l.j l.targets) (drop l.i l.set) t ≡ merged [] l.targets l.set t;
      below : (m : ℕ) → All (λ t. t < m) l.targets → All (λ t. t < m) l.set → All (λ t. t < m) l.into.items;
    }

abbrev pub decreases-loop-i : goal.decreases-loop-i
decreases-loop-i g l = length l.set - l.i + (length l.targets - l.j)
