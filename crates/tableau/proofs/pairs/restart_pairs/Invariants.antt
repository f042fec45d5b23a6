use Rattle.std.proofs.Common.{◌≡◌, ◌<◌, ◌≤◌, ℕ, length}
use Rattle.tableau.specs.private.Encoding.{HasLength, pair_at}
use Rattle.tableau.specs.private.EncodingSteps.{start_pair}
use Rattle.tableau.proofs.pairs.restart_pairs.Given as goal

-- the pairs before this qubit are as they were at the start, and those that are left have their letters
abbrev pub invariant-loop-qubit : goal.invariant-loop-qubit
invariant-loop-qubit g l =
    record {
      size : length l.rows.items ≡ length l.fn.rows.items;
      begun : (q : ℕ) → q < l.qubit → pair_at (length l.fn.rows.items) l.rows.items q ≡ start_pair (length l.fn.rows.items) q;
      left : (q : ℕ) → l.qubit ≤ q → q < length l.fn.rows.items → HasLength (length l.fn.rows.items) (pair_at (length l.fn.rows.items) l.rows.items q);
    }
