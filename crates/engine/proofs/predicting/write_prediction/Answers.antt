use Rattle.std.proofs.Common.{sym, ap, ◌∙◌, subst}
use Rattle.engine.specs.Output.{Output, done, refused_or}
use Rattle.engine.specs.private.Answered.{Answers}
use Rattle.engine.proofs.predicting.write_prediction.Goals as goal

pub returns-in-Ok : goal.returns-in-Ok
returns-in-Ok g c lines text read kept =
    subst (λ (output : Output). Answers g.W.Sink.taken g.W.Sink.failures c.args.sink.now c.write_answer.new.sink output c.write_answer.result)
    (ap done c.as_slice.ensures.value ∙ sym (ap refused_or (c.in-Ok.ensures.ok lines text read kept)))
    c.write_answer.ensures

pub returns-in-Err : goal.returns-in-Err
returns-in-Err g c lines text read kept = c.refuse.ensures.answered _ (c.in-Err.ensures.err lines text read kept)
