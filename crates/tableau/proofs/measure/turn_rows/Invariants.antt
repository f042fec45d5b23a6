use Rattle.std.proofs.Common.{◌≡◌, ◌++◌, take, drop}
use Rattle.pauli_word.specs.Words.{IsNextLetter}
use Rattle.tableau.specs.private.CliffordMaps.{turned}
use Rattle.tableau.specs.private.EncodingSteps.{mapped}
use Rattle.tableau.proofs.measure.turn_rows.Given as goal

abbrev pub invariant-loop-row : goal.invariant-loop-row
invariant-loop-row g l =
    record {
      rows : l.rows.items ≡ mapped (turned l.turn) (take l.row l.fn.rows.items) ++ drop l.row l.fn.rows.items;
      next : IsNextLetter l.word.letters l.row l.next;
    }
