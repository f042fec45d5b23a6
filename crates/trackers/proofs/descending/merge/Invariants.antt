use Rattle.std.proofs.Common.{◌≡◌, ◌≤◌, ◌+◌, ◌-◌, ◌++◌, length, drop}
use Rattle.trackers.specs.private.Sets.{xor_sets}
use Rattle.trackers.proofs.descending.merge.Given as goal

-- what is there, and what is made of those that are left
abbrev pub invariant-loop-i : goal.invariant-loop-i
invariant-loop-i g l =
    record {
      first_within : l.i ≤ length l.first;
      second_within : l.j ≤ length l.second;
      whole : l.into.items ++ xor_sets (drop l.i l.first) (drop l.j l.second) ≡ xor_sets l.first l.second;
    }

abbrev pub decreases-loop-i : goal.decreases-loop-i
decreases-loop-i g l = length l.first - l.i + (length l.second - l.j)
