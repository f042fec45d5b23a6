use Rattle.std.proofs.Common.{◌≡◌, ◌≤◌, ◌++◌, length, take}
use Rattle.circuit_walk.specs.Letters.{AreSmall, letters_in}
use Rattle.backward.proofs.letters.put_few.Given as goal

-- the letters before those that are left were put
abbrev pub invariant-loop-term : goal.invariant-loop-term
invariant-loop-term l =
    record {
      small : AreSmall l.left;
      within : l.count ≤ length l.few;
      put : take l.count l.few ++ letters_in l.left ≡ letters_in l.letters;
    }

abbrev pub decreases-loop-term : goal.decreases-loop-term
decreases-loop-term l = length (letters_in l.left)
