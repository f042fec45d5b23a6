use Rattle.std.proofs.Common.{◌≡◌, ◌-◌, length}
use Rattle.tableau.specs.private.EncodingSteps.{code_of, first_letters}
use Rattle.tableau.proofs.codes.encode.Given as goal

-- the code so far is that of the letters before `start`
abbrev pub invariant-loop-qubit : goal.invariant-loop-qubit
invariant-loop-qubit g l =
    record {
      code : l.code.0 ≡ code_of (length l.rows.items) l.rows.items (first_letters l.start l.word.letters);
      other : l.code.1 ≡ l.fn.code.1;
    }

abbrev pub decreases-loop-qubit : goal.decreases-loop-qubit
decreases-loop-qubit g l = length l.word.letters - l.start
