use Rattle.std.proofs.Common.{◌≡◌, ◌++◌, length, take, drop}
use Rattle.gate_table.specs.WordImages.{image_at}
use Rattle.pauli_word.specs.declared.letter.Letter.TheVariants.{Z}
use Rattle.tableau.specs.private.CliffordMaps.{twisted}
use Rattle.tableau.specs.private.EncodingSteps.{lone, mapped, turning_gate}
use Rattle.tableau.proofs.collapse.turn_rows.Given as goal

abbrev pub invariant-loop-row : goal.invariant-loop-row
invariant-loop-row g l =
    l.rows.items ≡ mapped (λ v. image_at (turning_gate l.letter) l.qubit (twisted (lone (length l.code.0.letters) l.qubit Z) l.code.0 v)) (take l.row l.fn.rows.items) ++ drop l.row l.fn.rows.items
