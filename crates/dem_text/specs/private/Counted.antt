-- The counts of lines as they are reached.
use Rattle.std.specs.Prelude.{◌≡◌, ℕ, List, length, filter}
use Rattle.dem_text.specs.Meanings.{detector_count, is_error, observable_count}
use Rattle.dem_text.specs.Shifts.{Placed}

-- how many of some lines are error lines
abbrev pub error_count : List Placed → ℕ
error_count lines = length (filter (λ placed. is_error placed.operation) lines)

-- the counts of some lines
pub record AreCounts (lines : List Placed) (detectors observables errors : ℕ) : Type 0 where
  pub detectors_are : detectors ≡ detector_count lines
  pub observables_are : observables ≡ observable_count lines
  pub errors_are : errors ≡ error_count lines
