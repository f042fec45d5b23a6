use Rattle.std.proofs.Common.{ap, sym, ◌∙◌}
use Rattle.std.proofs.lemmas.List.{drop_more, drop_all}
use Rattle.dem_text.specs.declared.target.Target.TheVariants.{Plain}
use Rattle.dem_text.specs.Limits.{has_target_beyond}
use Rattle.dem_text.specs.Meanings.{detectors_to, observables_to}
use Rattle.dem_text.proofs.CountLemmas.{raised-next, raised-done, within-first}
use Rattle.dem_text.proofs.brief.extent_of.Goals as goal

pub raised_to-found-requires : goal.raised_to-found-requires
raised_to-found-requires c =
    let next = drop_more c.args.targets.now c.loop-target.target-index (Plain 0) c.loop-target-test.true in
    (within-first _ _ (sym (ap has_target_beyond next) ∙ c.loop-target.invariant.within)).0

pub loop-target-preserved : goal.loop-target-preserved
loop-target-preserved c =
    let next = drop_more c.args.targets.now c.loop-target.target-index (Plain 0) c.loop-target-test.true in
    record {
      detectors = raised-next detectors_to _ _ _ _ _ next c.raised_to-found.ensures.detectors ∙ c.loop-target.invariant.detectors;
      observables = raised-next observables_to _ _ _ _ _ next c.raised_to-found.ensures.observables ∙ c.loop-target.invariant.observables;
      within = (within-first _ _ (sym (ap has_target_beyond next) ∙ c.loop-target.invariant.within)).1;
    }

pub returns-clause-detectors : goal.returns-clause-detectors
returns-clause-detectors c =
    raised-done detectors_to _ _ (drop_all c.loop-target.target-index c.args.targets.now c.loop-target-test.false) ∙ c.loop-target.invariant.detectors

pub returns-clause-observables : goal.returns-clause-observables
returns-clause-observables c =
    raised-done observables_to _ _ (drop_all c.loop-target.target-index c.args.targets.now c.loop-target-test.false) ∙ c.loop-target.invariant.observables
