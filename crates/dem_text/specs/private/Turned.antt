-- Truth values that are flipped one after another. (This project's own.)
use Rattle.std.specs.Prelude.{ℕ, zero, suc, Bool, not, if◌then◌else◌, List, [], ◌∷◌}
use Rattle.step_model.specs.ErrorModels.{ErrorLine}

-- the one at this place flipped; none past the end
abbrev pub turned_at : List Bool → ℕ → List Bool
turned_at [] t = []
turned_at (b ∷ bits) zero = not b ∷ bits
turned_at (b ∷ bits) (suc t) = b ∷ turned_at bits t

-- those at these places flipped, each as often as its place is listed
abbrev pub turned : List Bool → List ℕ → List Bool
turned bits [] = bits
turned bits (t ∷ targets) = turned (turned_at bits t) targets

-- those of the targets of the named lines flipped
abbrev pub turned_by : List Bool → List Bool → List ErrorLine → List Bool
turned_by bits (named ∷ rest) (line ∷ lines) = turned_by (if named then turned bits line.targets else bits) rest lines
turned_by bits named lines = bits
