-- A list cut into pieces that lie one after another. The pieces are named by their ends alone: the first begins
-- at a given place, each other where the one before it ends. The ends never fall, and the last piece ends where
-- the list does, so no item is left out.
-- (This project's own.)
use Rattle.std.specs.Prelude.{◌≡◌, ℕ, ◌≤◌, List, [], ◌∷◌, slice_range}

-- the pieces of a list, the first from the start, with these ends
abbrev pub cut : {T : Type 0} → ℕ → List ℕ → List T → List (List T)
cut start [] items = []
cut start (end ∷ ends) items = slice_range items start end ∷ cut end ends items

-- the ends never fall below the start or one another, and the last is the count of the items
abbrev pub AreEnds : ℕ → List ℕ → ℕ → Type 0
AreEnds start [] count = start ≡ count
AreEnds start (end ∷ ends) count = (start ≤ end) × AreEnds end ends count
