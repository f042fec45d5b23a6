use Rattle.std.proofs.Common.{◌≡◌, ◌+◌, ◌≤◌, drop}
use Rattle.stim_parser.specs.private.Significant.{more_digits, IsWithin}
use Rattle.stim_parser.proofs.significant.more_digits.Given as goal

abbrev pub invariant-loop-digit : goal.invariant-loop-digit
invariant-loop-digit l = record {
  value : more_digits l.read (drop l.digit-index l.digits) ≡ more_digits l.initial.read l.digits;
  within : IsWithin l.read;
  length : l.read.length ≤ l.initial.read.length + l.digit-index;
}
