-- Sets of targets as descending lists. A list stands for the row of bits that has at each place the parity of how often
-- the place is listed; so the exclusive or of two lists is that of their rows, whatever their order. That a list
-- descends is said apart: such a list is the places at which its row has a 1. (Sensitivities taken back over a circuit:
-- Gidney, Quantum 5, 497 (2021). How they are kept here is this project's own.)
use Rattle.std.specs.Prelude.{⊤, ◌≡◌, ◌<◌, nat_lt, ℕ, List, [], ◌∷◌, if◌then◌else◌}

-- strictly descending, from below a bound
abbrev pub DescendsBelow : ℕ → List ℕ → Type 0
DescendsBelow m [] = ⊤
DescendsBelow m (x ∷ xs) = (x < m) × DescendsBelow x xs

-- x, the first of one list, merged with another list; `rest` merges the others of the first list with a list
abbrev pub xor_step : ℕ → (List ℕ → List ℕ) → List ℕ → List ℕ
xor_step x rest [] = x ∷ rest []
xor_step x rest (y ∷ ys) =
    if nat_lt y x then x ∷ rest (y ∷ ys) else (if nat_lt x y then y ∷ xor_step x rest ys else rest ys)

-- two lists merged, the greater first, where equal ones cancel
abbrev pub xor_sets : List ℕ → List ℕ → List ℕ
xor_sets [] ys = ys
xor_sets (x ∷ xs) ys = xor_step x (xor_sets xs) ys

-- x was taken out of a list that descends, or put in
abbrev pub IsToggled : ℕ → List ℕ → List ℕ → Type 0
IsToggled x old new = (m : ℕ) → DescendsBelow m old → new ≡ xor_sets (x ∷ []) old
