use Rattle.std.proofs.Common.{◌≡◌, drop}
use Rattle.tableau.specs.private.Waiting.{all_turned, CanTurn}
use Rattle.tableau.proofs.waiting_turns.turn_pair_by_all.Given as goal

-- what the turns ahead make of the pair is what all make of it
abbrev pub invariant-loop-turn : goal.invariant-loop-turn
invariant-loop-turn g l =
    record {
      ready : CanTurn l.qubit (drop l.turn-index l.turns) l.pair;
      x : all_turned (drop l.turn-index l.turns) l.pair.0 ≡ all_turned l.turns l.fn.pair.0;
      z : all_turned (drop l.turn-index l.turns) l.pair.1 ≡ all_turned l.turns l.fn.pair.1;
    }
