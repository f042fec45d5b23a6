use Rattle.std.proofs.Common.{◌≡◌, ◌<◌, ◌+◌, ◌-◌, ◌++◌, length, get_or, drop, ap, ◌∙◌, arith}
use Rattle.error_models.specs.ModelText.{target_text}
use Rattle.error_models.proofs.NameLemmas.{name_read, one_target_more}
use Rattle.error_models.proofs.names.Names.targets_before.Goals as goal

pub loop-left-preserved : goal.loop-left-preserved
loop-left-preserved g c =
    let targets = c.args.targets.now in
    let names = c.self.inside.names.items in
    let left = c.loop-left.left in
    let next : left - 1 + 1 ≡ left = omega (arith, c.loop-left-test.true) in
    let here : left - 1 < length targets = omega (arith, next, c.loop-left.invariant.before) in
    let target = get_or targets (left - 1) 0 in
    let within : target < length names = omega (arith, c.requires.targets (left - 1) 0 here, ap (λ n. n.targets) c.self.view_is) in
    let named =
    name_read names _ c.index-names-targets.result _ target c.index-names-targets.is c.as_slice-names.ensures.value within
    ∙ c.self.invariant target within
    ∙ ap (λ n. target_text n.detectors target) c.self.view_is in
    record {
      before = omega (arith, here);
      within = omega (arith, c.before-at.ensures.within, c.loop-left.invariant.within);
      least = omega (arith, c.before-at.ensures.least, c.loop-left.invariant.least, next);
      written =
          c.before-at.ensures.written
          ∙ (ap (λ l. c.index-names-targets.result ++ l) c.loop-left.invariant.written
          ∙ one_target_more c.args.self.now.detectors targets c.index-names-targets.result (drop c.args.end c.args.buffer.now) (left - 1) left 0 next here named);
    }
