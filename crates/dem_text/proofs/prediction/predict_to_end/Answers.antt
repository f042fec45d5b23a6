use Rattle.std.proofs.Common.{◌∙◌, refl, arith}
use Rattle.std.proofs.lemmas.Result.{err_from_is_err_and}
use Rattle.step_model.proofs.EndsLemmas.{HandsOut-kept, HandsOut-many}
use Rattle.dem_text.proofs.GatheringLemmas.{gathered-more, known-more, some-more}
use Rattle.dem_text.proofs.prediction.predict_to_end.Goals as goal

pub returns-in_err-read_piece-clause-rest : goal.returns-in_err-read_piece-clause-rest
returns-in_err-read_piece-clause-rest g c =
    let p = err_from_is_err_and c.from_residual-in_err-read_piece.result c.from_residual-in_err-read_piece.ensures.1 in
    rw p.1 (HandsOut-kept _ _ _ _ c.loop.invariant.gathered.handed_out c.in_err-read_piece.ensures.none_lost)

pub finish-requires-clause-known : goal.finish-requires-clause-known
finish-requires-clause-known g c =
    known-more _ _ _ _ c.loop.gathering _ _ c.loop.invariant.gathered c.in_ok-read_piece.ensures.piece

pub returns-in_err-finish-clause-rest : goal.returns-in_err-finish-clause-rest
returns-in_err-finish-clause-rest g c =
    let p = err_from_is_err_and c.from_residual-in_err-finish.result c.from_residual-in_err-finish.ensures.1 in
    rw p.1 (some-more _ _ _ _ c.loop.gathering _ _ c.loop.invariant.gathered c.in_ok-read_piece.ensures.piece)

pub returns-then-branch-eq0-clause-found : goal.returns-then-branch-eq0-clause-found
returns-then-branch-eq0-clause-found g c =
    c.in_ok-finish.ensures _ _ (gathered-more _ _ _ _ c.loop.gathering _ _ c.loop.invariant.gathered c.in_ok-read_piece.ensures.piece refl refl)

pub returns-in_err-take_lines-clause-rest : goal.returns-in_err-take_lines-clause-rest
returns-in_err-take_lines-clause-rest g c =
    let p = err_from_is_err_and c.from_residual-in_err-take_lines.result c.from_residual-in_err-take_lines.ensures.1 in
    rw p.1 (some-more _ _ _ _ c.loop.gathering _ _ c.loop.invariant.gathered c.in_ok-read_piece.ensures.piece)

pub returns-then-gathering-ge-MOST_READ-clause-endless : goal.returns-then-gathering-ge-MOST_READ-clause-endless
returns-then-gathering-ge-MOST_READ-clause-endless g c =
    let more = c.in_ok-take_lines.ensures.gathered _ _ _ (gathered-more _ _ _ _ c.loop.gathering _ _ c.loop.invariant.gathered c.in_ok-read_piece.ensures.piece refl refl) in
    (more.handed, more.handed_out, omega (arith, more.long, c.if-gathering-ge-MOST_READ.true))

pub loop-preserved : goal.loop-preserved
loop-preserved g c =
    record {
      gathered = c.in_ok-take_lines.ensures.gathered _ _ _ (gathered-more _ _ _ _ c.loop.gathering _ _ c.loop.invariant.gathered c.in_ok-read_piece.ensures.piece refl refl);
      calls = HandsOut-many _ _ _ _ _ c.loop.invariant.calls c.in_ok-read_piece.ensures.piece.handed_out (omega (arith, c.if-branch-eq0.false, c.in_ok-read_piece.ensures.piece.long));
      same_count = c.in_ok-read_piece.ensures.count ∙ c.loop.invariant.same_count;
      ready = c.in_ok-take_lines.ensures.ready;
      few = c.if-gathering-ge-MOST_READ.false;
    }
