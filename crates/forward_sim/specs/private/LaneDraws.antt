-- Drawing into one lane of a list of words: within a span of the words the lane becomes 1 where a truth value is true,
-- and everything else stays. (This project's own.)
use Rattle.std.specs.Prelude.{◌≡◌, ◌≢◌, ◌<◌, ◌≤◌, ℕ, Bool, ◌||◌, List, length, slice_index}
use Rattle.bit_rows.specs.Lanes.{lane_bit}
use Rattle.forward_sim.specs.declared.span.Span.{Span}

-- there is a word for each fault of these bounds, and one for each coin of a span, whose coins are passed over
pub record HasRoom (passed : Span) (bounds faults coins : List ℕ) : Type 0 where
  pub faults_fit : length faults ≡ length bounds
  pub order : passed.start ≤ passed.end
  pub within : passed.end ≤ length coins

pub record DrawsInto (j start end : ℕ) (hits : ℕ → Bool) (old new : List ℕ) : Type 0 where
  pub size : length new ≡ length old
  pub below : (k : ℕ) → k < start → slice_index new k ≡ slice_index old k
  pub inside : (k : ℕ) → start ≤ k → k < end → lane_bit j (slice_index new k) ≡ (hits k || lane_bit j (slice_index old k))
  pub above : (k : ℕ) → end ≤ k → slice_index new k ≡ slice_index old k
  pub others : (i k : ℕ) → i ≢ j → lane_bit i (slice_index new k) ≡ lane_bit i (slice_index old k)
