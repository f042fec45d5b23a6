-- The targets that a line of an error model names, by their numbers: detectors first, and observable k after all
-- detectors and k more. A separator has no number. And the numbers that a list has an odd number of times. (Stim's
-- detector error model format, github.com/quantumlib/Stim, doc/file_format_dem_detector_error_model.md, "Target
-- Types".)
use Rattle.std.specs.Prelude.{ℕ, List, filter}
use Rattle.std.specs.List.{flat_map, range_with_len}
use Rattle.step_model.specs.Targets.{is_listed}
use Rattle.dem_text.specs.declared.target.Target.{Target}
use Rattle.dem_text.specs.Meanings.{numbered}

-- the numbers of targets, in their order
abbrev pub numbers_of : ℕ → List Target → List ℕ
numbers_of detectors targets = flat_map (numbered detectors) targets

-- the numbers below n that a list has an odd number of times, ascending
abbrev pub odd_below : ℕ → List ℕ → List ℕ
odd_below n numbers = filter (is_listed numbers) (range_with_len 0 n)
