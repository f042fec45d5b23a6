-- Faults that happen in none of 64 runs.
-- (How they are passed over is this project's own.)
use Rattle.std.specs.Prelude.{◌≡◌, ◌<◌, ◌≤◌, ℕ, false, List}
use Rattle.bit_rows.specs.Lanes.{lane}
use Rattle.step_model.specs.Runs.{happens}

-- a fault happens in no run
abbrev pub HappensNowhere : List ℕ → ℕ → Type 0
HappensNowhere faults f = (j : ℕ) → happens (lane j faults) f ≡ false

-- none from one number to another does
abbrev pub NoneHappens : List ℕ → ℕ → ℕ → Type 0
NoneHappens faults from end = (f : ℕ) → from ≤ f → f < end → HappensNowhere faults f
