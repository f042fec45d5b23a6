-- Numbers of a list, read one by one. (This project's own.)
use Rattle.std.specs.Prelude.{ℕ, nat_lt, ◌==◌, Bool, ◌&&◌, if◌then◌else◌, List, Option, None, Some}
use Rattle.step_model.specs.Probabilities.{digits_value}
use Rattle.forward_sim.specs.Lists.{is_number}

-- whether a byte is a comma
abbrev pub is_comma : ℕ → Bool
is_comma byte = byte == 44

-- the number that decimal digits write
abbrev pub number_of : List ℕ → ℕ
number_of digits = digits_value digits

-- the number that a piece writes, where it is one and below count
abbrev pub number_below : ℕ → List ℕ → Option ℕ
number_below count piece =
    if is_number piece && nat_lt (number_of piece) count then Some (number_of piece) else None
