use Rattle.std.proofs.Common.{◌≡◌, ◌+◌, ◌-◌, ◌≤◌, length, map, vec_capacity}
use Rattle.std.specs.List.{range_with_len}
use Rattle.tableau.specs.private.EncodingSteps.{start_pair}
use Rattle.tableau.proofs.pairs.start_pairs.Given as goal

abbrev pub invariant-loop-qubit : goal.invariant-loop-qubit
invariant-loop-qubit g l =
    record {
      made : l.rows.items ≡ map (start_pair l.n) (range_with_len 0 l.qubit);
      room : length l.rows.items + (l.n - l.qubit) ≤ vec_capacity l.rows;
    }
