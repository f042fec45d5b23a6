-- The probability texts of a program's faults, by their numbers among the texts that are kept beside the text of its
-- error lines. (How they are kept is this project's own.)
use Rattle.std.specs.Prelude.{◌≡◌, ◌<◌, ℕ, List, length, slice_index_or}
use Rattle.step_model.specs.declared.chances.ChanceText.{ChanceText}
use Rattle.step_model.specs.Chances.{chance_at}
use Rattle.circuit_walk.specs.Programs.{KeptProgram}
use Rattle.step_model.specs.Targets.{targets_of}
use Rattle.error_models.specs.ErrorLines.{text_at}
use Rattle.error_models.specs.HeldText.{Held}

-- these are the numbers of the texts of the first probabilities
abbrev pub AreNumbers : List ChanceText → List (List ℕ) → List ℕ → Type 0
AreNumbers chances texts numbers =
    (k : ℕ) → k < length numbers → (slice_index_or numbers k 0 < length texts) × (text_at texts (slice_index_or numbers k 0) ≡ (chance_at chances k).text)

-- each of a program's probabilities has a number, and the text is for the program's targets
pub record IsTextFor (program : KeptProgram) (numbers : List ℕ) (held : Held) : Type 0 where
  pub counted : length numbers ≡ length program.chances
  pub numbered : AreNumbers program.chances held.texts numbers
  pub detectors : held.detectors ≡ length program.listing.detectors
  pub targets : held.targets ≡ length (targets_of program.listing)
