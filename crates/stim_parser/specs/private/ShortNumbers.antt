-- Whole numbers that are short enough to be within every limit.
use Rattle.std.specs.Prelude.{◌≡◌, ℕ, ◌<◌, ◌⊎◌, ⊤, true, List, [], ◌∷◌, ◌++◌}
use Rattle.stim_parser.specs.Coordinates.{is_whole_number}
use Rattle.stim_parser.specs.Numbers.{magnitude_of}

abbrev pub IsShort : List ℕ → Type 0
IsShort text = (is_whole_number text ≡ true) × (magnitude_of text < 1_000_000_000)

abbrev pub AreShort : List (List ℕ) → Type 0
AreShort [] = ⊤
AreShort (text ∷ texts) = IsShort text × AreShort texts

-- a text begins with a short number, perhaps with a space before it, and this follows
pub record BeginsShort (text rest : List ℕ) : Type 0 where
  pub number : List ℕ
  pub short : IsShort number
  pub text_is : (text ≡ number ++ rest) ⊎ (text ≡ 32 ∷ (number ++ rest))
