-- A number text taken apart, in slices of it. (Stim's circuit format, github.com/quantumlib/Stim,
-- doc/file_format_stim_circuit.md; how it is kept is this project's own.)
use Rattle.std.specs.Prelude.{◌≡◌, ℕ, ◌+◌, ◌<◌, ◌≤◌, true, ◌++◌, length}
use Rattle.std.specs.Char.{is_ascii_digit}
use Rattle.std.specs.List.{list_all}
use Rattle.step_model.specs.Probabilities.{Decimal}
use Rattle.stim_parser.specs.declared.decimal.Parts.{Parts}

abbrev pub decimal_in : Parts → Decimal
decimal_in parts =
    record {
      digits = parts.whole.now ++ parts.fraction.now;
      after_point = length parts.fraction.now;
      negative = parts.negative;
      exponent = parts.exponent;
    }

-- the parts of a text of this many bytes: digits, of which there are no more than bytes, and a small exponent
pub record IsOfText (bytes : ℕ) (parts : Parts) : Type 0 where
  pub whole : list_all is_ascii_digit parts.whole.now ≡ true
  pub fraction : list_all is_ascii_digit parts.fraction.now ≡ true
  pub length : length parts.whole.now + length parts.fraction.now ≤ bytes
  pub exponent : parts.exponent < 1000
