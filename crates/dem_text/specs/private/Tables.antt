-- What is worked out once of each line of an error model, however often the line is reached: the greatest detector and
-- the greatest observable that its own targets name, and the numbers that it states axis by axis. And what these are
-- where detectors are shifted. (Stim's detector error model format, github.com/quantumlib/Stim,
-- doc/file_format_dem_detector_error_model.md.)
use Rattle.std.specs.Prelude.{◌≡◌, ℕ, zero, suc, ◌+◌, false, ◌≤◌, ℤ, List, [], length, map}
pub use Rattle.step_model.specs.WellFormed.{most_detectors}
use Rattle.stim_parser.specs.Numbers.{whole_value}
use Rattle.dem_text.specs.declared.operation.Operation.{Operation}
use Rattle.dem_text.specs.declared.operation.Operation.TheVariants.{DetectorDeclaration, Shifts}
use Rattle.dem_text.specs.Limits.{has_target_beyond}
use Rattle.dem_text.specs.Verdicts.{Instruction}
use Rattle.dem_text.specs.declared.brief.Extent.{Extent}
use Rattle.dem_text.specs.Meanings.{detectors_to, observables_to}
use Rattle.stim_lexer.specs.Reached.{greatest_by}
use Rattle.dem_text.specs.private.Offsets.{AreSmall}
use Rattle.stim_parser.specs.Offsets.{moved}

-- ---- what is worked out of an instruction

abbrev pub extent_of : Instruction → Extent
extent_of i =
    record { detectors = greatest_by detectors_to i.targets; observables = greatest_by observables_to i.targets }

-- the numbers of a line of this kind: coordinates, or what is added to those of later lines
abbrev pub numbers_stated : Operation → List (List ℕ) → List ℤ
numbers_stated DetectorDeclaration arguments = map whole_value arguments
numbers_stated Shifts arguments = map whole_value arguments
numbers_stated operation arguments = []

abbrev pub numbers_of_line : Instruction → List ℤ
numbers_of_line i = numbers_stated i.operation i.arguments

-- these are an instruction's, whose own targets and numbers are within their limits
pub record IsKnown (i : Instruction) (extent : Extent) (numbers : List ℤ) : Type 0 where
  pub extent_is : extent ≡ extent_of i
  pub numbers_are : numbers ≡ numbers_of_line i
  pub within : has_target_beyond i.targets ≡ false
  pub few : length numbers ≤ 16
  pub small : AreSmall numbers

-- ---- where detectors are shifted

-- how many detectors there are up to the greatest that is named, where these are shifted; none where none is named
abbrev pub count_at : ℕ → ℕ → ℕ
count_at shift zero = 0
count_at shift (suc n) = suc n + shift

-- the coordinates that a line of this kind gives, which states these
abbrev pub coordinates_from : Operation → List ℤ → List ℤ → List ℤ
coordinates_from DetectorDeclaration stated offset = moved offset stated
coordinates_from operation stated offset = []
