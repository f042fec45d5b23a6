use Rattle.std.proofs.Common.{◌-◌, ◌∙◌, refl, arith}
use Rattle.step_model.proofs.ChanceLaws.{chance_at-get_or}
use Rattle.step_model.proofs.chances.latest.Goals as goal

pub returns-then-is_same-clause-named : goal.returns-then-is_same-clause-named
returns-then-is_same-clause-named c =
    chance_at-get_or c.args.texts.now (c.loop-left.left - 1) _ (omega (arith, c.loop-left.invariant, c.loop-left-test.true))
    ∙ c.if-is_same.ensures refl
