use Rattle.std.proofs.Common.{◌≡◌, take, true}
use Rattle.std.specs.Prelude.{fold}
use Rattle.std.specs.Char.{is_ascii_digit}
use Rattle.std.specs.List.{list_all}
use Rattle.stim_parser.proofs.DigitLemmas.{next_value}
use Rattle.stim_parser.proofs.front_number.short_front.Given as goal

abbrev pub invariant-loop-i : goal.invariant-loop-i
invariant-loop-i l = record {
  value : l.value ≡ fold next_value 0 (take l.i l.text);
  digits : list_all is_ascii_digit (take l.i l.text) ≡ true;
}
