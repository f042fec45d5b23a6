use Rattle.std.proofs.Common.{◌≡◌, ◌+◌, ◌++◌, take}
use Rattle.trackers.proofs.descending.append_few.Given as goal

abbrev pub invariant-loop-target : goal.invariant-loop-target
invariant-loop-target l =
    record {
      counted : l.end ≡ l.len + l.target-index;
      put : take l.end l.sum ≡ take l.len l.fn.sum ++ take l.target-index l.rest;
    }
