use Rattle.std.proofs.Common.{◌+◌, ◌-◌, ◌≤◌, length, vec_capacity}
use Rattle.std.specs.Prelude.{All}
use Rattle.tableau.specs.private.Waiting.{IsSized}
use Rattle.tableau.proofs.waiting_turns.identity_turns.Given as goal

abbrev pub invariant-loop : goal.invariant-loop
invariant-loop g l =
    record {
      sized : All (IsSized l.n) l.turns.items;
      space : length l.turns.items + (l.room - l.counter) ≤ vec_capacity l.turns;
    }
