use Rattle.std.proofs.Common.{◌≡◌, ◌<◌, ◌+◌, ◌-◌, ◌++◌, length, drop, ap, ◌∙◌, arith}
use Rattle.error_models.specs.HeldText.{texts_of}
use Rattle.error_models.proofs.HeldTextLemmas.{one_block_more}
use Rattle.error_models.proofs.ShortLineLemmas.{Pushes-one}
use Rattle.error_models.proofs.held_text.push_full.Goals as goal

pub loop-left-preserved : goal.loop-left-preserved
loop-left-preserved g c =
    let full = c.args.full.now in
    let left = c.loop-left.left in
    let next : left - 1 + 1 ≡ left = omega (arith, c.loop-left-test.true) in
    let within : left - 1 < length full = omega (arith, next, c.loop-left.invariant.within) in
    record {
      within = omega (arith, within);
      pushed = Pushes-one c.loop-left.invariant.pushed c.push.ensures
          (ap (λ l. texts_of (drop left full) ++ l) c.text.ensures
          ∙ one_block_more full (left - 1) left c.index-full-left.result next within c.index-full-left.is);
    }
