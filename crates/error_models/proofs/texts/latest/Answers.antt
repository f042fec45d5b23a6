use Rattle.std.proofs.Common.{◌-◌, ◌∙◌, sym, refl, arith}
use Rattle.error_models.proofs.ErrorLineLemmas.{text_at-get_or}
use Rattle.error_models.proofs.texts.latest.Goals as goal

pub returns-then-is_same-clause-named : goal.returns-then-is_same-clause-named
returns-then-is_same-clause-named c =
    text_at-get_or c.args.texts.now (c.loop-left.left - 1) c.index-texts-left.result (omega (arith, c.loop-left.invariant, c.loop-left-test.true))
    ∙ (sym c.index-texts-left.is ∙ (sym c.text.ensures ∙ c.if-is_same.ensures refl))
