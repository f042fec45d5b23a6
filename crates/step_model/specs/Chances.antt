-- The texts of a circuit's probabilities with their bounds, by their numbers. (This project's own.)
use Rattle.std.specs.Prelude.{◌≡◌, ◌<◌, ℕ, zero, suc, List, [], ◌∷◌, length}
use Rattle.step_model.specs.declared.chances.ChanceText.{ChanceText}

-- the text of a probability, and the floor of that probability times 2^64
pub record Chance : Type 0 where
  pub text : List ℕ
  pub bound : ℕ

-- what a number that no text has stands for
abbrev pub no_chance : Chance
no_chance = record { text = []; bound = 0 }

abbrev pub chance_of : ChanceText → Chance
chance_of chance = record { text = chance.text.now; bound = chance.bound }

-- the text with this number, from 0, and its bound
abbrev pub chance_at : List ChanceText → ℕ → Chance
chance_at [] n = no_chance
chance_at (chance ∷ chances) zero = chance_of chance
chance_at (chance ∷ chances) (suc n) = chance_at chances n

-- the texts that were there keep their numbers
abbrev pub KeepsChances : List ChanceText → List ChanceText → Type 0
KeepsChances old new = (n : ℕ) → n < length old → (n < length new) × (chance_at new n ≡ chance_at old n)
