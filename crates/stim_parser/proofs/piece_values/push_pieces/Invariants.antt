use Rattle.std.proofs.Common.{◌≡◌, length}
use Rattle.stim_parser.specs.Pieces.{pieces_of}
use Rattle.stim_parser.specs.Targets.{each_of}
use Rattle.stim_parser.specs.private.FrontNumbers.{with_front}
use Rattle.stim_parser.proofs.piece_values.push_pieces.Given as goal

abbrev pub invariant-loop-piece : goal.invariant-loop-piece
invariant-loop-piece g l =
    (with_front (g.L.LineTargets.targets l.values) (each_of g.V.PieceValue.written (pieces_of l.rest)) ≡ with_front (g.L.LineTargets.targets l.fn.values) (each_of g.V.PieceValue.written (pieces_of l.fn.text)))
    × (g.L.LineTargets.others l.values ≡ g.L.LineTargets.others l.fn.values)

abbrev pub decreases-loop-piece : goal.decreases-loop-piece
decreases-loop-piece g l = length l.rest
