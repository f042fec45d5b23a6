-- No coin is there, and so each is 0.
use Rattle.std.proofs.Common.{◌≡◌, List, Bool, [], refl, subst}
use Rattle.std.specs.Prelude.{IfOk}
use Rattle.engine.proofs.QuietRuns.{quiet_records}
use Rattle.engine.proofs.running.noiseless_records.Goals as goal

pub returns-clause-ok : goal.returns-clause-ok
returns-clause-ok g c =
    subst (λ (values : List Bool). IfOk c.run.result (λ records. records ≡ values)) (quiet_records c.args.program.now.listing [] [] refl refl) c.run.ensures.ok
