use Rattle.std.proofs.Common.{◌≡◌, ap, subst, sym, ◌∙◌}
use Rattle.std.specs.Prelude.{IfNone, IfSome}
use Rattle.std.proofs.lemmas.Result.{err_from_is_err_and}
use Rattle.step_model.specs.HitModels.{model_of}
use Rattle.error_models.specs.ModelText.{model_text}
use Rattle.step_model.specs.Pushed.{Pushes}
use Rattle.backward.specs.Places.{IsLowestRandom, NoneIsRandom}
use Rattle.backward.proofs.AnswerLemmas.{answers_all, answers_broken, answers_out_of_memory, answers_some}
use Rattle.backward.proofs.writing.write_in_parts.Goals as goal

pub returns-in_err-finish-in-Ok-None : goal.returns-in_err-finish-in-Ok-None
returns-in_err-finish-in-Ok-None g c =
    let program = c.args.program.now.listing in
    let told = rw c.new-out.ensures at c.in-Ok-None.ensures in
    let none = subst (λ o. IfNone o (NoneIsRandom program)) c.in-Ok-None.field-0-is told.none in
    let text = subst (λ o. IfNone o (Pushes g.W.Sink.taken g.W.Sink.failures c.args.sink.now c.push_analysis.new.sink _ c.push_analysis.new.out (model_text (model_of program)))) c.in-Ok-None.field-0-is told.text in
    let failed = err_from_is_err_and c.from_residual.result c.from_residual.ensures.1 in
    rw (failed.1, failed.2)
    (answers_some g.W.Sink.taken g.W.Sink.failures c.args.sink.now c.push_analysis.new.sink c.finish.new.sink c.push_analysis.new.out program c.finish.result none text c.finish.ensures.after_failure c.finish.ensures.count _ c.in_err-finish-in-Ok-None.was c.finish.ensures.fault c.finish.ensures.beginning)

pub returns-in_ok-finish-in-Ok-None : goal.returns-in_ok-finish-in-Ok-None
returns-in_ok-finish-in-Ok-None g c =
    let program = c.args.program.now.listing in
    let told = rw c.new-out.ensures at c.in-Ok-None.ensures in
    let none = subst (λ o. IfNone o (NoneIsRandom program)) c.in-Ok-None.field-0-is told.none in
    let text = subst (λ o. IfNone o (Pushes g.W.Sink.taken g.W.Sink.failures c.args.sink.now c.push_analysis.new.sink _ c.push_analysis.new.out (model_text (model_of program)))) c.in-Ok-None.field-0-is told.text in
    answers_all g.W.Sink.taken g.W.Sink.failures c.args.sink.now c.push_analysis.new.sink c.finish.new.sink c.push_analysis.new.out program c.finish.result none text c.finish.ensures.after_failure c.finish.ensures.count _ c.in_ok-finish-in-Ok-None.was c.finish.ensures.all

pub returns-in-Ok-Some : goal.returns-in-Ok-Some
returns-in-Ok-Some g c =
    let lowest = subst (λ o. IfSome o (λ random. IsLowestRandom c.args.program.now.listing random.0 random.1)) c.in-Ok-Some.field-0-is c.in-Ok-Some.ensures.lowest in
    let nothing = subst (λ o. IfSome o (λ _. (c.push_analysis.new.sink ≡ c.args.sink.now) × (c.push_analysis.new.out ≡ c.new-out.result))) c.in-Ok-Some.field-0-is c.in-Ok-Some.ensures.nothing in
    record { none = tt; written = tt; lowest = lowest; nothing = nothing.0; fault = tt; beginning = tt; writes = ap g.W.Sink.failures nothing.0 }

pub returns-in-Err : goal.returns-in-Err
returns-in-Err g c =
    answers_broken g.W.Sink.taken g.W.Sink.failures c.args.sink.now c.push_analysis.new.sink c.push_analysis.new.out c.args.program.now.listing (sym c.has_failed.ensures ∙ c.if-has_failed.true) (rw c.new-out.ensures at c.in-Err.ensures).some

pub returns-in-Err-2 : goal.returns-in-Err-2
returns-in-Err-2 g c =
    answers_out_of_memory g.W.Sink.taken g.W.Sink.failures c.args.sink.now c.push_analysis.new.sink c.push_analysis.new.out c.args.program.now.listing (sym c.has_failed.ensures ∙ c.if-has_failed.false) (rw c.new-out.ensures at c.in-Err.ensures).some
