-- A set of some of the numbers below a bound, as one truth value a number. (Sensitivities taken back over a circuit:
-- Gidney, Quantum 5, 497 (2021). How they are kept here is this project's own.)
use Rattle.std.specs.Prelude.{ℕ, Bool, false, not, List, map, length, filter, slice_index_or, slice_set}
use Rattle.std.specs.List.{range_with_len}
use Rattle.step_model.specs.Targets.{is_listed}

-- the numbers in the set, ascending
abbrev pub members : List Bool → List ℕ
members bits = filter (λ t. slice_index_or bits t false) (range_with_len 0 (length bits))

-- the set of the numbers below m that a list has an odd number of times
abbrev pub row_of_set : ℕ → List ℕ → List Bool
row_of_set m set = map (is_listed set) (range_with_len 0 m)

-- a set with a number put in where it isn't there, and taken out where it is
abbrev pub toggled : ℕ → List Bool → List Bool
toggled t set = slice_set set t (not (slice_index_or set t false))
