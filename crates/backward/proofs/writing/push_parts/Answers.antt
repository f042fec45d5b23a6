use Rattle.std.proofs.Common.{ℕ, List, ◌++◌, inl, inr, length, refl, ap, subst, sym, ◌∙◌, append_assoc, arith}
use Rattle.std.specs.Prelude.{IfNone, IfSome}
use Rattle.std.proofs.lemmas.Result.{err_from_is_err_and}
use Rattle.error_models.specs.ModelText.{detectors_text, observables_text}
use Rattle.step_model.specs.HitModels.{model_of}
use Rattle.step_model.proofs.Pushing.{Pushes-nil, Pushes-trans}
use Rattle.backward.specs.Places.{IsLowestRandom, NoneIsRandom}
use Rattle.backward.specs.private.Points.{IsFor}
use Rattle.backward.specs.private.Segments.{turns_end}
use Rattle.backward.specs.private.Stretches.{text_between}
use Rattle.backward.proofs.AnswerLemmas.{failed_answer}
use Rattle.backward.proofs.PassLines.{text_between-parts}
use Rattle.backward.proofs.SegmentLemmas.{turns_on}
use Rattle.backward.proofs.StretchLemmas.{Pushes-as, passed_for, ready_first, some-then, whole_model}
use Rattle.backward.proofs.writing.push_parts.Goals as goal

pub write_segments-requires-clause-segments : goal.write_segments-requires-clause-segments
write_segments-requires-clause-segments g c = c.requires.parts.segments

pub write_segments-requires-clause-tracker : goal.write_segments-requires-clause-tracker
write_segments-requires-clause-tracker g c =
    let program = c.args.program.now.listing in
    subst (IsFor program) (sym c.in_ok-random.ensures.words) (passed_for program 0 (g.T.Tracker.tracked c.args.at.now.tracker) c.args.found.now c.requires.passed)

pub write_segments-requires-clause-ready : goal.write_segments-requires-clause-ready
write_segments-requires-clause-ready g c =
    let program = c.args.program.now.listing in
    ready_first program c.args.parts.cut _ c.args.found.now _ c.requires.first c.requires.passed c.requires.parts.enough
    refl (c.random_target.ensures.keeps ∙ c.requires.keeps) c.random_target.ensures.known c.random_target.ensures.lists

pub returns-in_err-random : goal.returns-in_err-random
returns-in_err-random g c = failed_answer (err_from_is_err_and c.from_residual.result c.from_residual.ensures.1).1 (inl (refl, refl))

pub returns-in-Some : goal.returns-in-Some
returns-in-Some g c =
    record {
      none = tt;
      text = tt;
      lowest = subst (λ o. IfSome o (λ random. IsLowestRandom c.args.program.now.listing random.0 random.1)) c.in-Some.is c.in_ok-random.ensures.lowest;
      nothing = (refl, refl);
      some = tt;
    }

pub push_kept-requires-clause-turns : goal.push_kept-requires-clause-turns
push_kept-requires-clause-turns g c = c.requires.parts.turns

pub returns-in_err-write_segments-in-None : goal.returns-in_err-write_segments-in-None
returns-in_err-write_segments-in-None g c =
    let program = c.args.program.now.listing in
    let part = c.requires.parts in
    let cut = c.args.parts.cut in
    let on = turns_on c.args.program.now cut c.args.parts.turns part.turns in
    let below = part.below in
    failed_answer (err_from_is_err_and c.from_residual-in_err-write_segments-in-None.result c.from_residual-in_err-write_segments-in-None.ensures.1).1
    (inr (
      subst (λ o. IfNone o (NoneIsRandom program)) c.in-None.is c.in_ok-random.ensures.none,
      some-then c.args.sink.now c.args.sink.now c.write_segments.new.sink c.args.out.now c.args.out.now c.write_segments.new.out _ (text_between program 0 cut) (text_between program cut (length program.steps) ++ (detectors_text (model_of program) ++ observables_text (model_of program))) _
          (whole_model program cut c.well_formed-2.ensures (omega (arith, on, below))) Pushes-nil c.in_err-write_segments-in-None.ensures.some,
    ))

pub returns-in_err-push_kept-in-None : goal.returns-in_err-push_kept-in-None
returns-in_err-push_kept-in-None g c =
    let program = c.args.program.now.listing in
    let part = c.requires.parts in
    let cut = c.args.parts.cut in
    let mid = turns_end cut c.args.parts.turns in
    let on = turns_on c.args.program.now cut c.args.parts.turns part.turns in
    let rest = text_between program mid (length program.steps) ++ (detectors_text (model_of program) ++ observables_text (model_of program)) in
    failed_answer (err_from_is_err_and c.from_residual-in_err-push_kept-in-None.result c.from_residual-in_err-push_kept-in-None.ensures.1).1
    (inr (
      subst (λ o. IfNone o (NoneIsRandom program)) c.in-None.is c.in_ok-random.ensures.none,
      some-then c.args.sink.now c.write_segments.new.sink c.push_kept.new.sink c.args.out.now c.write_segments.new.out c.push_kept.new.out (text_between program 0 cut) (text_between program cut mid) rest _
          (sym (append_assoc (text_between program 0 cut) (text_between program cut mid) rest) ∙ ap (λ (l : List ℕ). l ++ rest) (text_between-parts program 0 cut mid (omega arith) on) ∙ whole_model program mid c.well_formed-2.ensures part.below) c.in_ok-write_segments-in-None.ensures.text c.in_err-push_kept-in-None.ensures.some,
    ))

pub returns-in_ok-push_kept-in-None : goal.returns-in_ok-push_kept-in-None
returns-in_ok-push_kept-in-None g c =
    let program = c.args.program.now.listing in
    let part = c.requires.parts in
    let cut = c.args.parts.cut in
    let mid = turns_end cut c.args.parts.turns in
    let on = turns_on c.args.program.now cut c.args.parts.turns part.turns in
    let lines = detectors_text (model_of program) ++ observables_text (model_of program) in
    let rest = text_between program mid (length program.steps) ++ lines in
    record {
      none = subst (λ o. IfNone o (NoneIsRandom program)) c.in-None.is c.in_ok-random.ensures.none;
      text =
          Pushes-as c.args.sink.now c.push_declarations.new.sink c.args.out.now c.push_declarations.new.out _ _
          (ap (λ bytes. text_between program 0 cut ++ (text_between program cut mid ++ (bytes ++ lines))) part.text ∙ sym (append_assoc (text_between program 0 cut) (text_between program cut mid) rest) ∙ ap (λ (l : List ℕ). l ++ rest) (text_between-parts program 0 cut mid (omega arith) on) ∙ whole_model program mid c.well_formed-2.ensures part.below)
          (Pushes-trans c.in_ok-write_segments-in-None.ensures.text (Pushes-trans c.in_ok-push_kept-in-None.ensures.text (Pushes-trans c.push_to.ensures c.push_declarations.ensures)));
      lowest = tt;
      nothing = tt;
      some = tt;
    }
