use Rattle.std.proofs.Common.{sym, ◌∙◌}
use Rattle.stim_parser.proofs.PieceValueLemmas.{with_front-more, with_front-ends, with_front-done}
use Rattle.stim_parser.proofs.piece_values.push_pieces.Goals as goal

pub returns-in_default-of_piece-clause-read : goal.returns-in_default-of_piece-clause-read
returns-in_default-of_piece-clause-read g c =
    sym c.loop-piece.invariant.0
    ∙ with_front-ends g.V.PieceValue.written (g.L.LineTargets.targets c.loop-piece.values) _ _ _ c.in-Some.ensures.pieces (sym c.of_piece.ensures ∙ c.in_default-of_piece.is)

pub loop-piece-preserved : goal.loop-piece-preserved
loop-piece-preserved g c = (
  rw c.in_ok-push.ensures.targets
      (sym (with_front-more g.V.PieceValue.written (g.L.LineTargets.targets c.loop-piece.values) _ _ _ c.in-Some-of_piece.value c.in-Some.ensures.pieces (sym c.in-Some-of_piece.is ∙ c.of_piece.ensures))
      ∙ c.loop-piece.invariant.0),
  c.in_ok-push.ensures.others ∙ c.loop-piece.invariant.1,
)

pub returns-clause-read : goal.returns-clause-read
returns-clause-read g c =
    sym c.loop-piece.invariant.0 ∙ with_front-done g.V.PieceValue.written (g.L.LineTargets.targets c.loop-piece.values) _ c.in_default.ensures.pieces
