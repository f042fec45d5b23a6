-- The error lines of a model, kept as numbers of the texts of their probabilities and as their targets. (Stim's
-- detector error model format, `error` instructions.)
use Rattle.std.specs.Prelude.{◌≡◌, ◌<◌, ℕ, zero, suc, List, [], ◌∷◌, length, All, slice_index_or}
use Rattle.step_model.specs.ErrorModels.{ErrorLine, ErrorModel}

-- the text with this number, from 0
abbrev pub text_at : List (List ℕ) → ℕ → List ℕ
text_at [] n = []
text_at (text ∷ texts) zero = text
text_at (text ∷ texts) (suc n) = text_at texts n

-- the texts that were there keep their numbers
abbrev pub KeepsTexts : List (List ℕ) → List (List ℕ) → Type 0
KeepsTexts old new = (n : ℕ) → n < length old → (n < length new) × (text_at new n ≡ text_at old n)

-- the lines whose probabilities have the texts with these numbers and which have these targets, one each
abbrev pub lines_of : List (List ℕ) → List ℕ → List (List ℕ) → List ErrorLine
lines_of texts (n ∷ numbers) (targets ∷ rest) = record { text = text_at texts n; targets = targets } ∷ lines_of texts numbers rest
lines_of texts numbers rest = []

-- each line has targets and a text, and the text is there
pub record IsNumbered (texts : List (List ℕ)) (numbers : List ℕ) (targets : List (List ℕ)) : Type 0 where
  pub counted : length numbers ≡ length targets
  pub named : All (λ n. n < length texts) numbers

-- an empty line, for one that isn't there
abbrev pub no_line : ErrorLine
no_line = record { text = []; targets = [] }

-- the line with this number, from 0
abbrev pub line_at : ErrorModel → ℕ → ErrorLine
line_at model line = slice_index_or model.lines line no_line
