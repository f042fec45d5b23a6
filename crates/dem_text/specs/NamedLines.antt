-- The error lines of a model that are named by their numbers, and their symptom. (Stim's detector error model format,
-- github.com/quantumlib/Stim, doc/file_format_dem_detector_error_model.md.)
use Rattle.std.specs.Prelude.{ℕ, ◌==◌, nat_lt, Bool, if◌then◌else◌, List, length, map, Option, None, Some}
use Rattle.std.specs.List.{list_all, list_any, range_with_len}
use Rattle.step_model.specs.ErrorModels.{ErrorModel}
use Rattle.dem_text.specs.Sums.{symptom_of}

-- whether a number is among these
abbrev pub is_among : List ℕ → ℕ → Bool
is_among numbers n = list_any (λ other. other == n) numbers

-- for each error line of a model, whether its number is among these
abbrev pub lines_named : List ℕ → ErrorModel → List Bool
lines_named numbers model = map (is_among numbers) (range_with_len 0 (length model.lines))

-- the symptom of the error lines of these numbers, where the model has them all
abbrev pub symptom_of_numbers : List ℕ → ErrorModel → Option (List Bool)
symptom_of_numbers numbers model =
    if list_all (λ n. nat_lt n (length model.lines)) numbers then Some (symptom_of model (lines_named numbers model)) else None
