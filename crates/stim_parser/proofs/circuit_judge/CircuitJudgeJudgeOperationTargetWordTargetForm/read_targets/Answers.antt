use Rattle.std.proofs.Common.{◌≡◌, true, false, List, Some, ap, sym, ◌∙◌}
use Rattle.stim_parser.specs.declared.target.Target.{Target}
use Rattle.stim_parser.specs.Verdicts.{line_targets, takes_none}
use Rattle.stim_parser.proofs.circuit_judge.CircuitJudgeJudgeOperationTargetWordTargetForm.read_targets.Goals as goal

pub returns-then-takes_none-clause-read : goal.returns-then-takes_none-clause-read
unfolding line_targets
returns-then-takes_none-clause-read g c =
    let takes : takes_none c.args.form ≡ true = sym c.takes_none.ensures ∙ c.if-takes_none.true in
    rw takes (ap (λ (targets : List Target). Some targets) (sym c.clear.ensures.targets))

pub returns-clause-read : goal.returns-clause-read
unfolding line_targets
returns-clause-read g c =
    let takes : takes_none c.args.form ≡ false = sym c.takes_none.ensures ∙ c.if-takes_none.false in
    rw takes c.read_targets.ensures.read
