use Rattle.std.proofs.Common.{◌≡◌, ◌++◌, take, drop}
use Rattle.tableau.specs.private.EncodingSteps.{mapped}
use Rattle.tableau.specs.private.Waiting.{all_turned}
use Rattle.tableau.proofs.waiting_turns.turn_rows_by_all.Given as goal

abbrev pub invariant-loop-row : goal.invariant-loop-row
invariant-loop-row g l = l.rows.items ≡ mapped (all_turned l.turns) (take l.row l.fn.rows.items) ++ drop l.row l.fn.rows.items
