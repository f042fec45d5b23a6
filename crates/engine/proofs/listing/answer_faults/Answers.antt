use Rattle.std.proofs.Common.{ap, sym, subst}
use Rattle.std.specs.Prelude.{Ok}
use Rattle.fault_list.specs.FaultLines.{list_text}
use Rattle.step_model.specs.Faults.{◌>>=◌}
use Rattle.engine.specs.Output.{done, refused_or}
use Rattle.engine.specs.private.Answered.{Answers}
use Rattle.engine.proofs.RefusedLemmas.{refused_at_first}
use Rattle.engine.proofs.listing.answer_faults.Goals as goal

pub returns-in-Ok : goal.returns-in-Ok
returns-in-Ok g c =
    subst (λ asked. Answers g.W.Sink.taken g.W.Sink.failures c.args.sink.now c.write_faults.new.sink (refused_or asked) c.write_faults.result)
    (sym (ap (λ read. read >>= (λ program. Ok (done (list_text program)))) c.in-Ok.ensures.ok)) c.write_faults.ensures

pub returns-in-Err : goal.returns-in-Err
returns-in-Err g c =
    c.refuse.ensures.answered _ (refused_at_first _ (λ program. Ok (done (list_text program))) _ c.in-Err.ensures.err)
