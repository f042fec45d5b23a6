-- How the text of error lines is held while they are found from the last to the first: in blocks of bytes, each filled
-- from its end, so that the block filled last comes first in the text. (Stim's detector error model format, `error`
-- instructions.)
use Rattle.std.specs.Prelude.{◌≡◌, ℕ, List, [], ◌++◌, reverse}
use Rattle.std.specs.List.{flat_map}
use Rattle.step_model.specs.ErrorModels.{ErrorLine}
use Rattle.error_models.specs.ModelText.{line_text}

-- a block: its text, and how many bytes fit before it
pub record Filled : Type 0 where
  pub text : List ℕ
  pub room : ℕ

-- a block without text
abbrev pub no_text : ℕ → Filled
no_text room = record { text = []; room = room }

-- the texts of blocks, that of the last first
abbrev pub texts_of : List Filled → List ℕ
texts_of full = flat_map (λ b. b.text) (reverse full)

-- the text of a block and of those that were filled before it
abbrev pub text_in : Filled → List Filled → List ℕ
text_in block full = block.text ++ texts_of full

-- a text ends with one that was there
abbrev pub EndsIn : List ℕ → List ℕ → Type 0
EndsIn old new = (front : List ℕ) × (new ≡ front ++ old)

-- how many detectors have names at most, and how many targets beside them: so the number of each has at most six digits
abbrev pub most_named : ℕ
most_named = 1_000_000

-- what is held of error lines: how many detectors and how many targets there are, the texts of probabilities that lines
-- may have, and the text of the lines
pub record Held : Type 0 where
  pub detectors : ℕ
  pub targets : ℕ
  pub texts : List (List ℕ)
  pub text : List ℕ

-- the text held is that of these lines, the last of them first
abbrev pub HoldsLines : Held → List ErrorLine → Type 0
HoldsLines held lines = held.text ≡ flat_map (line_text held.detectors) (reverse lines)
