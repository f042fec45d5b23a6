use Rattle.std.proofs.Common.{◌≡◌, ◌+◌, ◌-◌, ◌++◌, length, take, drop, ap, ◌∙◌, rules, arith}
use Rattle.error_models.specs.ModelText.{targets_text}
use Rattle.error_models.proofs.ShortLineLemmas.{Pushes-one, rest_written, targets_more}
use Rattle.error_models.proofs.text.write_targets.Goals as goal

pub loop-done-preserved : goal.loop-done-preserved
loop-done-preserved g c =
    let detectors = c.args.detectors in
    let targets = c.args.targets.now in
    let done = c.loop-done.done in
    let some = c.min.result in
    let start = c.targets_before-start.result in
    let long : length c.targets_before-start.new.buffer ≡ 4096 = search rules in
    let old_long : length c.loop-done.buffer ≡ 4096 = search rules in
    let count : done + some - done ≡ some = omega arith in
    let written =
    rest_written c.targets_before-start.new.buffer c.loop-done.buffer (targets_text detectors (take (done + some - done) (drop done targets))) start long old_long c.targets_before-start.ensures.written
    ∙ ap (λ n. targets_text detectors (take n (drop done targets))) count in
    record {
      within = omega (arith, c.min.ensures, c.loop-done.invariant.within);
      pushed = Pushes-one c.loop-done.invariant.pushed c.push.ensures (ap (λ l. targets_text detectors (take done targets) ++ l) written ∙ targets_more detectors targets done some);
    }
