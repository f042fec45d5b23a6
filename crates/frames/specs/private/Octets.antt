-- Eight of the runs that go side by side in the lanes of words, a byte a word.
-- (This project's own.)
use Rattle.std.specs.Prelude.{◌≡◌, ℕ, ◌+◌, ◌<◌, List, length, slice_index}
use Rattle.bit_rows.specs.Lanes.{lane_bit}

-- bytes hold eight lanes of each word, from this one on
pub record HoldLanes (first : ℕ) (words octets : List ℕ) : Type 0 where
  pub size : length octets ≡ length words
  pub lanes : (i : ℕ) → i < length words → (j : ℕ) → j < 8
      → lane_bit j (slice_index octets i) ≡ lane_bit (first + j) (slice_index words i)
