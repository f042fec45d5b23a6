use Rattle.std.proofs.Common.{◌≡◌, length}
use Rattle.stim_parser.specs.Pieces.{pieces_of}
use Rattle.stim_parser.specs.Targets.{each_of, target_of}
use Rattle.stim_parser.specs.private.FrontNumbers.{with_front}
use Rattle.stim_parser.proofs.target.read_targets.Given as goal

abbrev pub invariant-loop-qubit : goal.invariant-loop-qubit
invariant-loop-qubit g l = record {
  read : with_front (g.L.LineTargets.targets l.targets) (each_of target_of (pieces_of l.rest)) ≡ each_of target_of (pieces_of l.fn.text);
  others : g.L.LineTargets.others l.targets ≡ g.L.LineTargets.others l.fn.targets;
}

abbrev pub decreases-loop-qubit : goal.decreases-loop-qubit
decreases-loop-qubit g l = length l.rest
