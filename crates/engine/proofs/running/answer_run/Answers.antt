use Rattle.engine.proofs.running.answer_run.Goals as goal

pub returns-in-Err : goal.returns-in-Err
returns-in-Err g c = c.refuse.ensures.answered _ c.in-Err.ensures.err
