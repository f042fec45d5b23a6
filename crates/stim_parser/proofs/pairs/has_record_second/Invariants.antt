use Rattle.std.proofs.Common.{◌≡◌, length}
use Rattle.stim_parser.specs.Limits.{is_back, some_pair}
use Rattle.stim_parser.proofs.pairs.has_record_second.Given as goal

abbrev pub invariant-loop-rest : goal.invariant-loop-rest
invariant-loop-rest l = some_pair (λ a b. is_back b) l.rest ≡ some_pair (λ a b. is_back b) l.targets

abbrev pub decreases-loop-rest : goal.decreases-loop-rest
decreases-loop-rest l = length l.rest
