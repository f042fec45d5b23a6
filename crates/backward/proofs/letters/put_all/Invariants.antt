use Rattle.std.proofs.Common.{◌≡◌, ◌++◌, length}
use Rattle.circuit_walk.specs.Letters.{AreSmall, letters_in}
use Rattle.backward.proofs.letters.put_all.Given as goal

-- the letters before those that are left were put
abbrev pub invariant-loop-term : goal.invariant-loop-term
invariant-loop-term g l =
    record {
      small : AreSmall l.left;
      put : l.many.items ++ letters_in l.left ≡ letters_in l.letters;
    }

abbrev pub decreases-loop-term : goal.decreases-loop-term
decreases-loop-term g l = length (letters_in l.left)
