use Rattle.std.proofs.Common.{sym, subst}
use Rattle.std.specs.Prelude.{All}
use Rattle.tableau.specs.private.Waiting.{IsSized}
use Rattle.tableau.proofs.WaitingLaws.{none_yet}
use Rattle.tableau.proofs.tableau.waiting.WaitingTableau.start.Goals as goal

pub invariant_of-result : goal.invariant_of-result
invariant_of-result g c =
    none_yet c.in_ok-tableau.tableau c.in_ok-turns.turns.items
    (subst (λ n. All (IsSized n) c.in_ok-turns.turns.items) (sym c.in_ok-tableau.ensures.len) c.in_ok-turns.ensures)
