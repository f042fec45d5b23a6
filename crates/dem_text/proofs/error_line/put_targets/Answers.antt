use Rattle.std.proofs.Common.{subst, sym, ◌∙◌}
use Rattle.dem_text.proofs.CountedLemmas.{AreRead, read-all, read-none, read-one}
use Rattle.dem_text.proofs.error_line.put_targets.Goals as goal

pub loop-rest-init : goal.loop-rest-init
loop-rest-init g c = subst (AreRead c.args.text.now c.args.text.now) (sym c.clear.ensures.items) (read-none c.args.text.now)

pub loop-rest-preserved : goal.loop-rest-preserved
loop-rest-preserved g c =
    subst (AreRead c.args.text.now c.in-Some.after.now) (sym c.in_ok-push.ensures.items)
    (read-one _ _ _ _ _ c.loop-rest.invariant c.in-Some.ensures.front (sym c.is_target_beyond.ensures ∙ c.if-is_target_beyond.false))

pub returns : goal.returns
returns g c = read-all c.args.text.now c.loop-rest.rest.now c.behind_end.result.now c.loop-rest.targets.items c.loop-rest.invariant c.behind_end.ensures
