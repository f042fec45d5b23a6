use Rattle.std.proofs.Common.{◌≡◌, min, take, true}
use Rattle.std.specs.Char.{is_ascii_digit}
use Rattle.std.specs.List.{list_all}
use Rattle.forward_sim.specs.private.Numbers.{number_of}
use Rattle.forward_sim.proofs.listed.number_below.Given as goal

-- so far there are digits alone, and the number is theirs, or the count where they reach it
abbrev pub invariant-loop-digit : goal.invariant-loop-digit
invariant-loop-digit l = record {
  digits : list_all is_ascii_digit (take l.digit-index l.piece) ≡ true;
  value : l.n ≡ min l.count (number_of (take l.digit-index l.piece));
}
