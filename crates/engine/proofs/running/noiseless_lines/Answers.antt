use Rattle.std.proofs.lemmas.Result.{IfOk-weaker}
use Rattle.engine.proofs.QuietRuns.{noiseless_output}
use Rattle.engine.proofs.running.noiseless_lines.Goals as goal

pub returns-clause-ok : goal.returns-clause-ok
returns-clause-ok g c =
    IfOk-weaker c.lines_without_events.result _ _
    (λ lines is. noiseless_output c.args.program.listing _ _ lines.items c.in_ok-records.ensures.ok c.target_count-targets.ensures is)
    c.lines_without_events.ensures.ok
