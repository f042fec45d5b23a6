-- The error model that lines make as they are reached. Each `error` line is one of its lines, in their order: the text
-- of its probability as it stood, and what it flips, which are the detectors and observables that it names an odd
-- number of times; separators change nothing. The number of detectors is one more than the greatest that any line
-- names, even where it cancels, or 0 where none is named; the number of observables likewise. The coordinates of a
-- detector are those of the last `detector` line that names it and gives any. (Stim's detector error model format,
-- github.com/quantumlib/Stim, doc/file_format_dem_detector_error_model.md; which of several coordinates count is this
-- project's choice.)
use Rattle.std.specs.Prelude.{ℕ, ◌+◌, ◌==◌, Bool, true, false, not, ◌&&◌, if◌then◌else◌, ℤ, List, [], ◌∷◌, map}
use Rattle.std.specs.List.{filter, flat_map, list_any, range_with_len}
use Rattle.stim_lexer.specs.Bytes.{is_empty}
use Rattle.step_model.specs.Targets.{is_listed}
use Rattle.stim_lexer.specs.Reached.{greatest_by}
use Rattle.step_model.specs.ErrorModels.{ErrorLine, ErrorModel}
use Rattle.dem_text.specs.declared.operation.Operation.{Operation}
use Rattle.dem_text.specs.declared.operation.Operation.TheVariants.{PauliError}
use Rattle.dem_text.specs.declared.target.Target.{Target}
use Rattle.dem_text.specs.declared.target.Target.TheVariants.{Detector, Observable}
use Rattle.dem_text.specs.Shifts.{Placed}

-- ---- how many detectors and observables

-- one more than the detector that a target names, or 0
abbrev pub detectors_to : Target → ℕ
detectors_to (Detector d) = d + 1
detectors_to target = 0

-- one more than the observable that a target names, or 0
abbrev pub observables_to : Target → ℕ
observables_to (Observable k) = k + 1
observables_to target = 0

-- one more than the greatest detector that lines name, or 0
abbrev pub detector_count : List Placed → ℕ
detector_count lines = greatest_by (λ placed. greatest_by detectors_to placed.targets) lines

-- one more than the greatest observable that lines name, or 0
abbrev pub observable_count : List Placed → ℕ
observable_count lines = greatest_by (λ placed. greatest_by observables_to placed.targets) lines

-- ---- what an error flips

-- the number of a target in a model with this many detectors: these come first, and observable k is k more; a separator
-- has none
abbrev pub numbered : ℕ → Target → List ℕ
numbered detectors (Detector d) = d ∷ []
numbered detectors (Observable k) = (detectors + k) ∷ []
numbered detectors target = []

-- the numbers that targets name an odd number of times, ascending
abbrev pub flipped : ℕ → ℕ → List Target → List ℕ
flipped detectors observables targets =
    filter (is_listed (flat_map (numbered detectors) targets)) (range_with_len 0 (detectors + observables))

-- ---- error lines

-- whether a line is an error
abbrev pub is_error : Operation → Bool
is_error PauliError = true
is_error operation = false

-- an error line as a line of the model, and the error lines among lines
abbrev pub error_line : ℕ → ℕ → Placed → ErrorLine
error_line detectors observables placed =
    record { text = placed.text; targets = flipped detectors observables placed.targets }

-- the error lines among lines, as lines of the model
abbrev pub error_lines : ℕ → ℕ → List Placed → List ErrorLine
error_lines detectors observables lines =
    map (error_line detectors observables) (filter (λ placed. is_error placed.operation) lines)

-- ---- coordinates

-- whether a line gives coordinates to this detector
abbrev pub gives_coordinates : ℕ → Placed → Bool
gives_coordinates d placed =
    not (is_empty placed.coordinates) && list_any (λ target. detectors_to target == d + 1) placed.targets

-- the coordinates of the last line that gives any to detector d; `found` where no line does
unfoldable pub last_coordinates : ℕ → List ℤ → List Placed → List ℤ
last_coordinates d found [] = found
last_coordinates d found (placed ∷ rest) =
    last_coordinates d (if gives_coordinates d placed then placed.coordinates else found) rest

-- the coordinates of each detector
abbrev pub coordinates_in : List Placed → List (List ℤ)
coordinates_in lines = map (λ d. last_coordinates d [] lines) (range_with_len 0 (detector_count lines))

-- ---- the model

-- the error model of lines
abbrev pub meaning_of : List Placed → ErrorModel
meaning_of lines =
    record {
      lines = error_lines (detector_count lines) (observable_count lines) lines;
      coordinates = coordinates_in lines;
      detectors = detector_count lines;
      observables = observable_count lines;
    }
