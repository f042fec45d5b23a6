use Rattle.std.proofs.Common.{◌≡◌, ◌+◌, ◌++◌, length, take, drop}
use Rattle.forward_sim.proofs.last_word.append.Given as goal

-- the list so far, and what is left of the other
abbrev pub invariant-loop-place : goal.invariant-loop-place
invariant-loop-place l =
    record {
      size : length l.numbers ≡ length l.fn.numbers;
      listed : take (l.start + l.place) l.numbers ++ drop l.place l.more ≡ take l.start l.fn.numbers ++ l.more;
    }
