use Rattle.std.proofs.Common.{◌≡◌, drop}
use Rattle.std.specs.Prelude.{max, nat_abs}
use Rattle.stim_lexer.specs.Reached.{greatest_by}
use Rattle.dem_text.proofs.brief.reach_of.Given as goal

abbrev pub invariant-loop-number : goal.invariant-loop-number
invariant-loop-number l = max l.found (greatest_by nat_abs (drop l.number-index l.numbers)) ≡ greatest_by nat_abs l.numbers
