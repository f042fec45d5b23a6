use Rattle.std.proofs.Common.{◌<◌}
use Rattle.dem_text.specs.private.ErrorTexts.{IsNumberFront}
use Rattle.dem_text.proofs.error_line.front_number.Given as goal

abbrev pub invariant-loop : goal.invariant-loop
invariant-loop l = record {
  front : IsNumberFront l.fn.text l.number l.rest;
  few : l.number < 1_000_000;
}
