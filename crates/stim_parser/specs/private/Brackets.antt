-- A record's text as the parser takes it apart: what stands before its bracket, and the number there. (This project's own.)
use Rattle.std.specs.Prelude.{ℕ, ◌==◌, ◌-◌, nat_le, ◌&&◌, if◌then◌else◌, List, length, take, drop, Option, None, Some, option_and_then, codes, bytes_eq, slice_index, slice_range}
use Rattle.stim_parser.specs.Numbers.{number_of}

-- what stands before a `]` at the end
abbrev pub before_bracket : List ℕ → Option (List ℕ)
before_bracket text =
    if nat_le 1 (length text) && slice_index text (length text - 1) == 93
    then Some (slice_range text 0 (length text - 1))
    else None

-- a number that isn't 0
abbrev pub at_least_one : List ℕ → Option ℕ
at_least_one digits = option_and_then (λ k. if k == 0 then None else Some k) (number_of digits)

abbrev pub record_in_parts : List ℕ → Option ℕ
record_in_parts piece =
    if bytes_eq (take 5 piece) (codes "rec[-") then option_and_then at_least_one (before_bracket (drop 5 piece)) else None
