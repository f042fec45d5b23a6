use Rattle.std.proofs.Common.{map, length, ◌+◌}
use Rattle.std.specs.Option.{option_map_or}
use Rattle.std.specs.List.{slice_split}
use Rattle.stim_parser.specs.Arguments.{is_comma, parts_of, trimmed}
use Rattle.stim_parser.proofs.WholeNumberLemmas.{Reads}
use Rattle.stim_parser.proofs.whole_numbers.put_whole_numbers.Given as goal

abbrev pub invariant-loop-rest : goal.invariant-loop-rest
invariant-loop-rest l = Reads (map trimmed (slice_split is_comma l.fn.text)) (map trimmed (parts_of l.rest)) l.found.items

abbrev pub decreases-loop-rest : goal.decreases-loop-rest
decreases-loop-rest l = option_map_or (λ text. length text.now + 1) l.rest 0
