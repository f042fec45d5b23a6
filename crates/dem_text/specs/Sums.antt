-- The symptom of the error lines that are named: a truth value for each target, detectors first, which says whether
-- these lines list the target an odd number of times in all. (Stim's detector error model format,
-- github.com/quantumlib/Stim, doc/file_format_dem_detector_error_model.md.)
use Rattle.std.specs.Prelude.{ℕ, ◌+◌, Bool, false, ◌&&◌, List, ◌∷◌, map}
use Rattle.std.specs.List.{range_with_len}
use Rattle.pauli_word.specs.Parity.{exclusive_or}
use Rattle.step_model.specs.Targets.{is_listed}
use Rattle.step_model.specs.ErrorModels.{ErrorLine, ErrorModel}

-- whether a target is flipped by an odd number of the lines named
abbrev pub is_in_symptom : List Bool → List ErrorLine → ℕ → Bool
is_in_symptom (named ∷ rest) (line ∷ lines) t = exclusive_or (named && is_listed line.targets t) (is_in_symptom rest lines t)
is_in_symptom named lines t = false

-- the symptom of the lines of a model that are named
abbrev pub symptom_of : ErrorModel → List Bool → List Bool
symptom_of model named = map (is_in_symptom named model.lines) (range_with_len 0 (model.detectors + model.observables))
