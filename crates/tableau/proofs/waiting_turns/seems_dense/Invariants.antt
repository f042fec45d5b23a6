use Rattle.std.proofs.Common.{◌≤◌}
use Rattle.tableau.proofs.waiting_turns.seems_dense.Given as goal

abbrev pub invariant-loop-place : goal.invariant-loop-place
invariant-loop-place g l = l.seen ≤ l.place
