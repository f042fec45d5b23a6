use Rattle.std.proofs.Common.{◌≡◌, take, true}
use Rattle.std.specs.Prelude.{fold}
use Rattle.std.specs.Char.{is_ascii_digit}
use Rattle.std.specs.List.{list_all}
use Rattle.stim_parser.proofs.DigitLemmas.{next_value}
use Rattle.stim_parser.proofs.digits.short_number_of.Given as goal

abbrev pub invariant-loop-digit : goal.invariant-loop-digit
invariant-loop-digit l = record {
  value : l.value ≡ fold next_value 0 (take l.digit-index l.text);
  digits : list_all is_ascii_digit (take l.digit-index l.text) ≡ true;
}
