-- A text that begins with a number, and values of pieces read one after another. (This project's own.)
use Rattle.std.specs.Prelude.{◌≡◌, ℕ, List, ◌∷◌, ◌++◌, Option, None, Some}
use Rattle.stim_parser.specs.Numbers.{number_of}
use Rattle.stim_parser.specs.Pieces.{pieces_of}

-- the first piece of a text is a number, and a rest follows it
pub record BeginsWithNumber (text : List ℕ) (number : ℕ) (rest : List ℕ) : Type 0 where
  pub piece : List ℕ
  pub writes : Some number ≡ number_of piece
  pub pieces : pieces_of text ≡ piece ∷ pieces_of rest

-- the values read before, and those of the pieces that follow
abbrev pub with_front : {V : Type 0} → List V → Option (List V) → Option (List V)
with_front front None = None
with_front front (Some values) = Some (front ++ values)
