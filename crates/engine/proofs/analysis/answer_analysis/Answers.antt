use Rattle.std.proofs.Common.{sym, subst}
use Rattle.std.specs.Prelude.{Ok}
use Rattle.engine.specs.Output.{found_in, refused_or}
use Rattle.engine.specs.private.Answered.{Answers}
use Rattle.engine.proofs.FindingLemmas.{found_of_text}
use Rattle.engine.proofs.RefusedLemmas.{refused_at_first}
use Rattle.engine.proofs.analysis.answer_analysis.Goals as goal

pub returns-in-Ok-clause-answered : goal.returns-in-Ok-clause-answered
returns-in-Ok-clause-answered g c =
    subst (λ asked. Answers g.W.Sink.taken g.W.Sink.failures c.args.sink.now c.write_finding.new.sink (refused_or asked) c.write_finding.result)
    (sym (found_of_text c.args.text.now c.in-Ok.program.listing c.in-Ok.ensures.ok)) c.write_finding.ensures.answered

pub returns-in-Err-clause-answered : goal.returns-in-Err-clause-answered
returns-in-Err-clause-answered g c =
    c.refuse.ensures.answered _ (refused_at_first _ (λ program. Ok (found_in program)) _ c.in-Err.ensures.err)
