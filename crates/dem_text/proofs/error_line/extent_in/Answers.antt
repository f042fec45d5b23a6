use Rattle.std.proofs.Common.{sym, ◌∙◌}
use Rattle.dem_text.proofs.CountedLemmas.{counted-all, counted-none, counted-one}
use Rattle.dem_text.proofs.error_line.extent_in.Goals as goal

pub loop-rest-init : goal.loop-rest-init
loop-rest-init c = counted-none c.args.text.now

pub loop-rest-preserved : goal.loop-rest-preserved
loop-rest-preserved c =
    counted-one _ _ _ _ _ _ c.loop-rest.invariant c.in_ok-target.ensures.front (sym c.is_target_beyond.ensures ∙ c.if-is_target_beyond.false)
    c.raised_to-found.ensures.detectors c.raised_to-found.ensures.observables

pub returns : goal.returns
returns c = counted-all c.args.text.now c.loop-rest.rest.now c.behind_end.result.now c.loop-rest.found c.loop-rest.invariant c.behind_end.ensures
