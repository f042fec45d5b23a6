-- Words of a list that were combined with those of another, from one index up to another.
-- (This project's own.)
use Rattle.std.specs.Prelude.{◌≡◌, ◌<◌, ◌≤◌, ℕ, List, slice_index, bit_xor}

-- new has the exclusive or of first and second from low up to high, and the words of first elsewhere
pub record XorsWithin (first second new : List ℕ) (low high : ℕ) : Type 0 where
  pub below : (k : ℕ) → k < low → slice_index new k ≡ slice_index first k
  pub inside : (k : ℕ) → low ≤ k → k < high → slice_index new k ≡ bit_xor (slice_index first k) (slice_index second k)
  pub above : (k : ℕ) → high ≤ k → slice_index new k ≡ slice_index first k
