use Rattle.std.proofs.Common.{◌≡◌, take}
use Rattle.trackers.proofs.descending.put_few.Given as goal

-- those before this one are put
abbrev pub invariant-loop-i : goal.invariant-loop-i
invariant-loop-i g l =
    record {
      put : l.items.items ≡ take l.i l.sum;
      room : l.items.capacity ≡ 4;
    }
