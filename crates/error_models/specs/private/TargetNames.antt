-- The texts of targets, by the target. (This project's own.)
use Rattle.std.specs.Prelude.{◌≡◌, ◌<◌, ℕ, Bool, true, false, List, length, reverse}
use Rattle.error_models.specs.ErrorLines.{text_at}
use Rattle.error_models.specs.ModelText.{target_text}

-- how many targets have a name, and how many of them are detectors
pub record Named : Type 0 where
  pub detectors : ℕ
  pub targets : ℕ

-- each of these is the text of the target at its place
abbrev pub AreNames : ℕ → List (List ℕ) → Type 0
AreNames detectors names = (t : ℕ) → t < length names → text_at names t ≡ target_text detectors t

-- the targets of a list, from the last to the first where b
abbrev pub reversed_where : Bool → List ℕ → List ℕ
reversed_where true targets = reverse targets
reversed_where false targets = targets
