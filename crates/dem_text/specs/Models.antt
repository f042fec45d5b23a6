-- The error model that a text writes, or why it writes none. Besides the refusals of its lines, and after them, a text
-- is refused where its blocks unroll to more than 4,000,000 lines; and then by the first line, in the order in which
-- lines are reached, that names a detector above 999,999 once shifted, or gives a coordinate of 10^18 or more in
-- magnitude. (Stim's detector error model format, github.com/quantumlib/Stim,
-- doc/file_format_dem_detector_error_model.md; the limits and the order of refusals are this project's.)
use Rattle.std.specs.Prelude.{ℕ, nat_abs, Bool, ◌||◌, if◌then◌else◌, ℤ, List, Option, None, Some, option_map, find, Result}
use Rattle.std.specs.List.{list_any}
use Rattle.std.specs.Option.{option_or}
use Rattle.step_model.specs.declared.fault.Fault.{Fault}
use Rattle.step_model.specs.declared.fault.Cause.TheVariants as cause
use Rattle.step_model.specs.ErrorModels.{ErrorModel}
use Rattle.step_model.specs.Faults.{unless, without_line, ◌>>=◌}
use Rattle.stim_parser.specs.Numbers.{is_number_beyond}
use Rattle.stim_lexer.specs.Flat.{tree_of}
use Rattle.dem_text.specs.Limits.{has_target_beyond}
use Rattle.dem_text.specs.Meanings.{meaning_of}
use Rattle.dem_text.specs.Reached.{has_many_lines}
use Rattle.stim_lexer.specs.Reached.{reached}
use Rattle.dem_text.specs.Shifts.{Placed, no_shift, placed_from}
use Rattle.dem_text.specs.Texts.{items_in}
use Rattle.stim_lexer.specs.Texts.{refused}
use Rattle.dem_text.specs.Trees.{Tree}

-- the lines of a tree as they are reached
abbrev pub placed_lines : Tree → List Placed
placed_lines tree = placed_from no_shift (reached tree)

-- a coordinate beyond its limit
abbrev pub is_coordinate_beyond : ℤ → Bool
is_coordinate_beyond c = is_number_beyond (nat_abs c)

-- a number that is beyond its limit where the line is reached
abbrev pub is_beyond : Placed → Bool
is_beyond placed = has_target_beyond placed.targets || list_any is_coordinate_beyond placed.coordinates

-- the first line that has such a number
abbrev pub first_beyond : List Placed → Option ℕ
first_beyond lines = option_map (λ placed. placed.line) (find is_beyond lines)

-- the refusal of a tree, where it has one
abbrev pub refusal_of_tree : Tree → Option Fault
refusal_of_tree tree =
    option_or (if has_many_lines tree then Some (without_line cause.DemSteps) else None)
    (option_map (refused cause.DemNumber) (first_beyond (placed_lines tree)))

-- the model of a tree, or its refusal
abbrev pub model_of_tree : Tree → Result ErrorModel Fault
model_of_tree tree = unless (refusal_of_tree tree) (meaning_of (placed_lines tree))

-- the model of a text, or its refusal
abbrev pub model_in : List ℕ → Result ErrorModel Fault
model_in text = items_in text >>= (λ items. model_of_tree (tree_of items))
