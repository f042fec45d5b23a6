-- The text of an error model. First one line for each error line: `error(`, the probability text byte for byte, `)`,
-- its targets in their order, each after one space, and a line feed. Then one line a detector, in ascending order:
-- `detector`, its coordinates in parentheses where it has some, joined by `, `, a space and the detector. Then one line
-- an observable, in ascending order: `logical_observable`, a space and the observable. A detector is written `D` and
-- its number; an observable `L` and its number, which is the target's less the number of detectors. Numbers are
-- whole, in decimal, with `-` in front where negative. (Stim's detector error model format.)
use Rattle.std.specs.Prelude.{ℕ, ◌-◌, nat_lt, if◌then◌else◌, ℤ, List, [], ◌∷◌, ◌++◌, codes, decimal, slice_index_or}
use Rattle.std.specs.Fmt.{signed_decimal}
use Rattle.std.specs.List.{flat_map, range_with_len}
use Rattle.step_model.specs.ErrorModels.{ErrorLine, ErrorModel}

-- a target after a space, in a model with this many detectors
abbrev pub target_text : ℕ → ℕ → List ℕ
target_text detectors target =
    if nat_lt target detectors then codes " D" ++ decimal target else codes " L" ++ decimal (target - detectors)

-- the targets of a line
abbrev pub targets_text : ℕ → List ℕ → List ℕ
targets_text detectors targets = flat_map (target_text detectors) targets

-- an error line
abbrev pub line_text : ℕ → ErrorLine → List ℕ
line_text detectors line = codes "error(" ++ line.text ++ codes ")" ++ targets_text detectors line.targets ++ codes "\n"

-- coordinates after the first
abbrev pub more_coordinates_text : List ℤ → List ℕ
more_coordinates_text coordinates = flat_map (λ c. codes ", " ++ signed_decimal c) coordinates

-- coordinates in parentheses, where there are some
abbrev pub coordinates_text : List ℤ → List ℕ
coordinates_text [] = []
coordinates_text (c ∷ coordinates) = codes "(" ++ signed_decimal c ++ more_coordinates_text coordinates ++ codes ")"

-- the line of a detector, by its number and its coordinates
abbrev pub detector_text : ℕ → List ℤ → List ℕ
detector_text detector coordinates = codes "detector" ++ coordinates_text coordinates ++ codes " D" ++ decimal detector ++ codes "\n"

-- the line of an observable, by its number
abbrev pub observable_text : ℕ → List ℕ
observable_text observable = codes "logical_observable L" ++ decimal observable ++ codes "\n"

-- the error lines of a model, the lines of its detectors, and those of its observables
abbrev pub lines_text : ErrorModel → List ℕ
lines_text model = flat_map (line_text model.detectors) model.lines

-- the lines of the detectors of a model
abbrev pub detectors_text : ErrorModel → List ℕ
detectors_text model =
    flat_map (λ d. detector_text d (slice_index_or model.coordinates d [])) (range_with_len 0 model.detectors)

-- the lines of its observables
abbrev pub observables_text : ErrorModel → List ℕ
observables_text model = flat_map observable_text (range_with_len 0 model.observables)

-- the text of a model
abbrev pub model_text : ErrorModel → List ℕ
model_text model = lines_text model ++ detectors_text model ++ observables_text model
