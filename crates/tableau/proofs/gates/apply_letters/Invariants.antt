use Rattle.std.proofs.Common.{◌≡◌}
use Rattle.tableau.specs.private.EncodingSteps.{first_letters, after_word}
use Rattle.tableau.proofs.gates.apply_letters.Given as goal

abbrev pub invariant-loop-qubit : goal.invariant-loop-qubit
invariant-loop-qubit g l = l.rows.items ≡ after_word (first_letters l.qubit l.word.letters) l.fn.rows.items
