use Rattle.std.proofs.Common.{◌≡◌, length}
use Rattle.stim_parser.specs.private.NearTargets.{are_near_pairs}
use Rattle.stim_parser.proofs.near_targets.are_near_pairs.Given as goal

abbrev pub invariant-loop-rest : goal.invariant-loop-rest
invariant-loop-rest l = are_near_pairs l.rest ≡ are_near_pairs l.targets

abbrev pub decreases-loop-rest : goal.decreases-loop-rest
decreases-loop-rest l = length l.rest
