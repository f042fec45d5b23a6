use Rattle.std.proofs.Common.{◌≡◌, ◌≤◌, take}
use Rattle.circuit_walk.proofs.kept_letters.KeptLetters.are.Given as goal

-- where all targets before this one were counted, they are the same
abbrev pub invariant-loop-at : goal.invariant-loop-at
invariant-loop-at l = record { counted : l.same ≤ l.at; same : l.same ≡ l.at → take l.at l.kept ≡ take l.at l.others }
