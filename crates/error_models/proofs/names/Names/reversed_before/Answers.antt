use Rattle.std.proofs.Common.{◌≡◌, ◌<◌, ◌+◌, ◌++◌, length, get_or, suc, drop, ap, ◌∙◌, arith}
use Rattle.error_models.specs.ModelText.{target_text}
use Rattle.error_models.proofs.NameLemmas.{name_read, one_reversed_more}
use Rattle.error_models.proofs.names.Names.reversed_before.Goals as goal

pub loop-target-preserved : goal.loop-target-preserved
loop-target-preserved g c =
    let targets = c.args.targets.now in
    let names = c.self.inside.names.items in
    let i = c.loop-target.target-index in
    let next : i + 1 ≡ suc i = omega arith in
    let here : i < length targets = omega (arith, c.loop-target-test.true) in
    let target = get_or targets i 0 in
    let within : target < length names = omega (arith, c.requires.targets i 0 here, ap (λ n. n.targets) c.self.view_is) in
    let named =
    name_read names _ c.index-names-target.result _ target c.index-names-target.is c.as_slice-names.ensures.value within
    ∙ c.self.invariant target within
    ∙ ap (λ n. target_text n.detectors target) c.self.view_is in
    record {
      within = omega (arith, c.before-at.ensures.within, c.loop-target.invariant.within);
      least = omega (arith, c.before-at.ensures.least, c.loop-target.invariant.least, next);
      written =
          c.before-at.ensures.written
          ∙ (ap (λ l. c.index-names-target.result ++ l) c.loop-target.invariant.written
          ∙ one_reversed_more c.args.self.now.detectors targets c.index-names-target.result (drop c.args.end c.args.buffer.now) i (i + 1) 0 next here named);
    }
