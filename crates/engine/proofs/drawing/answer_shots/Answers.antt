use Rattle.std.proofs.Common.{sym, subst}
use Rattle.frames.specs.Shown.{shown_line}
use Rattle.engine.specs.Output.{program_shots, refused_or}
use Rattle.engine.specs.private.Answered.{Answers}
use Rattle.engine.proofs.DrawingLemmas.{shots_of_text}
use Rattle.engine.proofs.RefusedLemmas.{refused_at_first}
use Rattle.engine.proofs.drawing.answer_shots.Goals as goal

pub returns-in-Ok : goal.returns-in-Ok
returns-in-Ok g c =
    subst (λ asked. Answers g.W.Sink.taken g.W.Sink.failures c.args.sink.now c.write_shots.new.sink (refused_or asked) c.write_shots.result)
    (sym (shots_of_text (shown_line c.args.shown) c.args.shots c.args.seed c.args.text.now c.in-Ok.program.listing c.in-Ok.ensures.ok)) c.write_shots.ensures

pub returns-in-Err : goal.returns-in-Err
returns-in-Err g c =
    c.refuse.ensures.answered _ (refused_at_first _ (program_shots (shown_line c.args.shown) c.args.shots c.args.seed) _ c.in-Err.ensures.err)
