use Rattle.std.proofs.Common.{◌≡◌, ◌++◌, take, drop}
use Rattle.tableau.specs.private.CliffordMaps.{turned}
use Rattle.tableau.specs.private.EncodingSteps.{mapped}
use Rattle.tableau.proofs.measure.turn_rows_by_letter.Given as goal

abbrev pub invariant-loop-row : goal.invariant-loop-row
invariant-loop-row g l = l.rows.items ≡ mapped (turned l.turn) (take l.row l.fn.rows.items) ++ drop l.row l.fn.rows.items
