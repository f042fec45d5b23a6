-- An error model that can be written, so that its text reads as that model: the text of each probability is accepted;
-- the targets of each line ascend strictly, and are among the detectors and observables; each detector has its
-- coordinates, at most 16, each of a magnitude below 10^18; and there are at most 1,000,000 detectors and 1,024
-- observables. (Stim's detector error model format; the limits are this project's.)
use Rattle.std.specs.Prelude.{◌≡◌, ◌<◌, ◌≤◌, ◌+◌, ℕ, true, length, All}
use Rattle.std.specs.List.Sorted.{IsStrictlyIncreasing}
use Rattle.step_model.specs.ErrorModels.{ErrorLine, ErrorModel}
use Rattle.step_model.specs.WellFormed.{CoordinatesFit, most_detectors, most_observables}
use Rattle.stim_parser.specs.Limits.{is_probability}

-- a line, in a model with this many detectors and observables together
pub record IsWritableLine (targets : ℕ) (line : ErrorLine) : Type 0 where
  pub accepted : is_probability line.text ≡ true
  pub ascending : IsStrictlyIncreasing line.targets
  pub in_range : All (λ t. t < targets) line.targets

pub record IsWritable (model : ErrorModel) : Type 0 where
  pub lines : All (IsWritableLine (model.detectors + model.observables)) model.lines
  pub coordinates_given : length model.coordinates ≡ model.detectors
  pub coordinates_fit : All CoordinatesFit model.coordinates
  pub few_detectors : model.detectors ≤ most_detectors
  pub few_observables : model.observables ≤ most_observables
