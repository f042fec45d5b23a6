use Rattle.std.proofs.Common.{◌≡◌, ◌≤◌, drop}
use Rattle.std.specs.Prelude.{fold, min}
use Rattle.stim_parser.specs.Numbers.{value_of}
use Rattle.stim_parser.proofs.DigitLemmas.{next_value}
use Rattle.stim_parser.proofs.digits.value_of.Given as goal

abbrev pub invariant-loop-digit : goal.invariant-loop-digit
invariant-loop-digit l = record {
  value : min (fold next_value l.value (drop l.digit-index l.digits)) 1_000_000_000_000_000_000 ≡ value_of l.digits;
  small : l.value ≤ 1_000_000_000_000_000_000;
}
