use Rattle.std.proofs.Common.{ℕ, ◌-◌, ◌<◌, get_or, take}
use Rattle.std.specs.Prelude.{reverse}
use Rattle.trackers.specs.private.Sets.{DescendsBelow}
use Rattle.trackers.proofs.descending.ascends.Given as goal

-- those before this one ascend to below each bound that the last of them is below
abbrev pub invariant-loop-i : goal.invariant-loop-i
invariant-loop-i l = (m : ℕ) → (0 < l.i → get_or l.targets (l.i - 1) 0 < m) → DescendsBelow m (reverse (take l.i l.targets))
