use Rattle.std.proofs.Common.{length}
use Rattle.circuit_walk.specs.Letters.{AreSmall, letters_in}
use Rattle.proved_tests.proofs.tests.calls.step_words.are_letters.Given as goal

abbrev pub invariant-loop-term : goal.invariant-loop-term
invariant-loop-term l = AreSmall l.left

abbrev pub decreases-loop-term : goal.decreases-loop-term
decreases-loop-term l = length (letters_in l.left)
