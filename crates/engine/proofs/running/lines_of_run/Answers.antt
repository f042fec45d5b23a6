-- Where no fault happens and each coin is 0, the run is the reference run.
use Rattle.std.proofs.Common.{◌≡◌, ◌∙◌, List, ℕ, sym, subst}
use Rattle.std.specs.Prelude.{IfOk}
use Rattle.engine.proofs.QuietRuns.{IsQuiet, quiet_lines}
use Rattle.engine.proofs.running.lines_of_run.Goals as goal

pub returns-then-not-has_true-2-clause-ok : goal.returns-then-not-has_true-2-clause-ok
returns-then-not-has_true-2-clause-ok g c =
    let no_fault : IsQuiet c.args.faults.now = sym c.has_true.ensures ∙ c.if-not-has_true.true in
    let no_coin : IsQuiet c.args.coins.now = sym c.has_true-then-not-has_true.ensures ∙ c.if-not-has_true-2.true in
    subst (λ (lines : List ℕ). IfOk c.lines_without_events.result (λ text. text.items ≡ lines))
    (quiet_lines c.args.program.now.listing c.args.faults.now c.args.coins.now _ _ no_fault no_coin c.in_ok-reference.ensures.ok c.target_count.ensures)
    c.lines_without_events.ensures.ok
