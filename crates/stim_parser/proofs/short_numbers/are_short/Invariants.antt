use Rattle.std.proofs.Common.{map}
use Rattle.std.specs.List.{slice_split}
use Rattle.stim_parser.specs.Arguments.{is_comma, trimmed}
use Rattle.stim_parser.proofs.ShortNumberLemmas.{AreShortSoFar}
use Rattle.stim_parser.proofs.short_numbers.are_short.Given as goal

abbrev pub invariant-loop-read : goal.invariant-loop-read
invariant-loop-read l = AreShortSoFar (map trimmed (slice_split is_comma l.fn.text)) (map trimmed (slice_split is_comma l.rest)) l.read
