use Rattle.std.proofs.Common.{◌≡◌, length}
use Rattle.stim_parser.specs.Limits.{is_same_qubit, some_pair}
use Rattle.stim_parser.proofs.pairs.has_pair_of_one.Given as goal

abbrev pub invariant-loop-rest : goal.invariant-loop-rest
invariant-loop-rest l = some_pair is_same_qubit l.rest ≡ some_pair is_same_qubit l.targets

abbrev pub decreases-loop-rest : goal.decreases-loop-rest
decreases-loop-rest l = length l.rest
