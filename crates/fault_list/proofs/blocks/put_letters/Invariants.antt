use Rattle.std.proofs.Common.{◌≡◌, ◌≤◌, ◌*◌, take}
use Rattle.fault_list.specs.private.FactorTexts.{letter_factors, starred}
use Rattle.fault_list.proofs.blocks.put_letters.Given as goal

-- the factors of the letters before this one are put
abbrev pub invariant-loop-at : goal.invariant-loop-at
invariant-loop-at l =
    record {
      within : l.end ≤ l.at * 12;
      written : take l.end l.buffer ≡ starred (letter_factors l.from (take l.at l.letters));
    }
