-- The targets that list each record, from the lists of the targets: each target is toggled at each record that it
-- lists, and so is in the sets of those that it lists an odd number of times. (Sensitivities taken back over a circuit:
-- Gidney, Quantum 5, 497 (2021). How they are kept here is this project's own.)
use Rattle.std.specs.Prelude.{◌≡◌, ℕ, All, Bool, false, List, [], ◌∷◌, length, replicate, slice_index_or, slice_set}
use Rattle.step_model.specs.TargetSets.{toggled}

abbrev pub toggled_in : ℕ → ℕ → List (List Bool) → List (List Bool)
toggled_in t r sets = slice_set sets r (toggled t (slice_index_or sets r []))

-- the target toggled at each of these records
abbrev pub toggled_in_each : ℕ → List ℕ → List (List Bool) → List (List Bool)
toggled_in_each t [] sets = sets
toggled_in_each t (r ∷ named) sets = toggled_in_each t named (toggled_in t r sets)

-- as many sets, each as long as before
pub record AreAsLong (old new : List (List Bool)) : Type 0 where
  pub len : length new ≡ length old
  pub long : (n : ℕ) → All (λ set. length set ≡ n) old → All (λ set. length set ≡ n) new

-- an empty set for each record, where there are no sets yet
abbrev pub opened_sets : ℕ → ℕ → List (List Bool) → List (List Bool)
opened_sets records m [] = replicate records (replicate m false)
opened_sets records m (set ∷ sets) = set ∷ sets
