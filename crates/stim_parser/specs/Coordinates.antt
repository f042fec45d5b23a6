-- What is read of an instruction's arguments: the number that the first one writes, and all of them as coordinates,
-- which are whole numbers within their limit. An instruction has at most 16 of them. (Stim's gate reference,
-- github.com/quantumlib/Stim, doc/gates.md, "DETECTOR" and "OBSERVABLE_INCLUDE"; the limits are this project's.)
use Rattle.std.specs.Prelude.{ℕ, nat_le, Bool, not, ◌&&◌, if◌then◌else◌, ℤ, List, length, map, Option, None, Some, option_and_then, slice_get, nat_lt, is_some}
use Rattle.std.specs.List.{list_all}
use Rattle.step_model.specs.Probabilities.{decimal_of}
use Rattle.stim_parser.specs.Numbers.{is_number, number_of, without_minus, whole_value, greatest_coordinate, magnitude_of}

-- digits with a `-` before them or without, and such with a point and an exponent too
abbrev pub is_whole_number : List ℕ → Bool
is_whole_number text = is_number (without_minus text)

abbrev pub is_decimal : List ℕ → Bool
is_decimal text = is_some (decimal_of (without_minus text))

abbrev pub is_coordinate_beyond : List ℕ → Bool
is_coordinate_beyond text = nat_lt greatest_coordinate (magnitude_of text)

-- the number that the first argument writes, where it is digits
abbrev pub first_number : List (List ℕ) → Option ℕ
first_number arguments = option_and_then number_of (slice_get arguments 0)

abbrev pub is_coordinate : List ℕ → Bool
is_coordinate text = is_whole_number text && not (is_coordinate_beyond text)

abbrev pub are_coordinates : List (List ℕ) → Bool
are_coordinates arguments = nat_le (length arguments) 16 && list_all is_coordinate arguments

-- all arguments as coordinates, where they are at most 16 coordinates
unfoldable pub coordinates_in : List (List ℕ) → Option (List ℤ)
coordinates_in arguments = if are_coordinates arguments then Some (map whole_value arguments) else None
