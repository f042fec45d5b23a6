-- Faults that don't happen.
-- (How they are passed over is this project's own.)
use Rattle.std.specs.Prelude.{◌≡◌, ◌<◌, ◌≤◌, ℕ, Bool, false, List}
use Rattle.step_model.specs.Runs.{happens}

-- none from one number to another happens
abbrev pub NoneHappens : List Bool → ℕ → ℕ → Type 0
NoneHappens faults from end = (f : ℕ) → from ≤ f → f < end → happens faults f ≡ false
