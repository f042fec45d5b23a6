use Rattle.std.proofs.Common.{◌≡◌, ◌≤◌, ◌++◌, length, take}
use Rattle.backward.specs.private.MovedTargets.{picked}
use Rattle.backward.proofs.moved.end_of_picked.Given as goal

abbrev pub invariant-loop-i : goal.invariant-loop-i
invariant-loop-i l =
    record {
      within : l.at ≤ length l.list;
      so_far : take l.at l.list ≡ take l.from l.list ++ picked l.low l.high l.by (take l.i l.later);
    }
