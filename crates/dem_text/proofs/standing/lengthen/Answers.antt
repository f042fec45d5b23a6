use Rattle.std.proofs.Common.{ap, sym, ◌∙◌, arith}
use Rattle.dem_text.specs.private.Offsets.{padded}
use Rattle.dem_text.proofs.ShiftLemmas.{padded-done, padded-push}
use Rattle.dem_text.proofs.standing.lengthen.Goals as goal

pub loop-offset-preserved : goal.loop-offset-preserved
loop-offset-preserved c =
    ap (padded c.args.axes) c.push.ensures.items
    ∙ padded-push c.args.axes c.loop-offset.offset.items (omega (arith, c.loop-offset-test.true, c.len.ensures.value))
    ∙ c.loop-offset.invariant

pub returns : goal.returns
returns c =
    sym (padded-done c.args.axes c.loop-offset.offset.items (omega (arith, c.loop-offset-test.false, c.len.ensures.value))) ∙ c.loop-offset.invariant
