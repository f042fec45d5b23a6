-- Lines that are short enough to be written in a buffer of a fixed length. (This project's own.)
use Rattle.std.specs.Prelude.{◌≤◌, length}
use Rattle.step_model.specs.ErrorModels.{ErrorLine}

pub record IsShort (line : ErrorLine) : Type 0 where
  pub text : length line.text ≤ 32
  pub targets : length line.targets ≤ 16
