-- What the lines of an error model say as they are reached. `shift_detectors` adds its number to the number of each
-- detector that a later line names, and its arguments to the coordinates that a later `detector` line states, axis by
-- axis: an axis that no shift names is not moved, and one that a line doesn't state stays left out. Each turn of a
-- block goes on from the shift that the one before it left. All numbers are whole, and may be of any size. (Stim's
-- detector error model format, github.com/quantumlib/Stim, doc/file_format_dem_detector_error_model.md,
-- "shift_detectors".)
use Rattle.std.specs.Prelude.{ℕ, ◌+◌, ℤ, List, [], ◌∷◌, map, slice_index_or}
use Rattle.stim_parser.specs.Numbers.{whole_value}
use Rattle.stim_parser.specs.Offsets.{shifted, moved}
use Rattle.dem_text.specs.declared.operation.Operation.{Operation}
use Rattle.dem_text.specs.declared.operation.Operation.TheVariants.{DetectorDeclaration, Shifts}
use Rattle.dem_text.specs.declared.target.Target.{Target}
use Rattle.dem_text.specs.declared.target.Target.TheVariants.{Detector}
use Rattle.dem_text.specs.Verdicts.{Instruction, number_in}

-- by how much detectors are shifted, and each coordinate
pub record Shift : Type 0 where
  pub detectors : ℕ
  pub offset : List ℤ

-- the shift before the first line: none
abbrev pub no_shift : Shift
no_shift = record { detectors = 0; offset = [] }

-- ---- shifts

-- the shift after an operation with these arguments and targets
abbrev pub shifted_by : Operation → List (List ℕ) → List Target → Shift → Shift
shifted_by Shifts arguments targets s =
    record { detectors = s.detectors + number_in targets; offset = shifted s.offset (map whole_value arguments) }
shifted_by operation arguments targets s = s

-- the shift after an instruction
abbrev pub shift_after : Instruction → Shift → Shift
shift_after i s = shifted_by i.operation i.arguments i.targets s

-- ---- lines as they are reached

-- the coordinates that a line gives to the detectors that it names
abbrev pub coordinates_given : Operation → List (List ℕ) → List ℤ → List ℤ
coordinates_given DetectorDeclaration arguments offset = moved offset (map whole_value arguments)
coordinates_given operation arguments offset = []

-- a target, its detector shifted
abbrev pub shifted_target : ℕ → Target → Target
shifted_target shift (Detector d) = Detector (d + shift)
shifted_target shift target = target

-- a line as it is reached: its number, what it says, the text of its first argument as it stood, its coordinates and
-- its targets
pub record Placed : Type 0 where
  pub line : ℕ
  pub operation : Operation
  pub text : List ℕ
  pub coordinates : List ℤ
  pub targets : List Target

-- an instruction as it is reached with this shift
abbrev pub placed_at : Shift → Instruction → Placed
placed_at s i =
    record {
      line = i.line;
      operation = i.operation;
      text = slice_index_or i.arguments 0 [];
      coordinates = coordinates_given i.operation i.arguments s.offset;
      targets = map (shifted_target s.detectors) i.targets;
    }

-- instructions as they are reached, from this shift on
unfoldable pub placed_from : Shift → List Instruction → List Placed
placed_from s [] = []
placed_from s (i ∷ instructions) = placed_at s i ∷ placed_from (shift_after i s) instructions
