use Rattle.std.proofs.Common.{◌≡◌, ℕ, ◌<◌, ◌+◌, ◌*◌, [], length, map, get_or}
use Rattle.trackers.specs.private.Transposed.{column_of}
use Rattle.trackers.proofs.columns.restore_columns.Given as goal

abbrev pub invariant-loop-q : goal.invariant-loop-q
invariant-loop-q g l =
    record {
      long : map length l.columns ≡ map length l.fn.columns;
      done : (k : ℕ) → k < l.q → get_or l.columns k [] ≡ column_of (length (get_or l.fn.columns k [])) (get_or l.lists (2 * k) []) (get_or l.lists (2 * k + 1) []);
    }
