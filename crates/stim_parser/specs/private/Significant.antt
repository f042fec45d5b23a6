-- The significant digits of a number, read from the left: how many digits there are from the first that isn't a zero
-- on, how many of them are zeros at the end, and the number that those before these zeros write. Beyond 18 digits the
-- number is of no use, and is left as it was. (Stim's circuit format, github.com/quantumlib/Stim,
-- doc/file_format_stim_circuit.md; how it is kept is this project's own.)
use Rattle.std.specs.Prelude.{ℕ, ◌+◌, ◌-◌, ◌*◌, ◌^◌, ◌==◌, ◌<◌, ◌≤◌, nat_lt, if◌then◌else◌, List, fold}
use Rattle.stim_parser.specs.declared.significant.Significant.{Significant}

abbrev pub nothing_read : Significant
nothing_read = record { length = 0; zeros = 0; number = 0 }

-- after one more digit
abbrev pub next_digit : Significant → ℕ → Significant
next_digit s digit =
    if digit == 48
    then (if s.length == 0 then s else record { length = s.length + 1; zeros = s.zeros + 1; number = s.number })
    else
    record {
      length = s.length + 1;
      zeros = 0;
      number = if nat_lt s.length 18 then s.number * 10 ^ (s.zeros + 1) + (digit - 48) else s.number;
    }

-- after more digits
abbrev pub more_digits : Significant → List ℕ → Significant
more_digits s digits = fold next_digit s digits

-- the zeros are among the digits, and up to 18 digits make a number of that many digits
pub record IsWithin (s : Significant) : Type 0 where
  pub zeros : s.zeros ≤ s.length
  pub number : s.length ≤ 18 → s.number * 10 ^ s.zeros < 10 ^ s.length
