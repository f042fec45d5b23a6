use Rattle.std.proofs.Common.{◌≤◌, ◌-◌, ◌++◌, take, drop, ap, ◌∙◌, arith}
use Rattle.error_models.specs.ModelText.{target_text, targets_text}
use Rattle.error_models.proofs.HeldTextLemmas.{put_before, texts_and_rest}
use Rattle.error_models.proofs.lines_text.LinesText.put_targets.Goals as goal

pub loop-left-preserved : goal.loop-left-preserved
loop-left-preserved g c =
    let targets = c.args.targets.now in
    let detectors = c.args.self.now.detectors in
    let left = c.loop-left.left in
    let from = c.saturating_sub-from.result in
    let le : from ≤ left = omega (arith, c.saturating_sub-from.ensures) in
    let part = take (left - from) (drop from targets) in
    record {
      within = omega (arith, le, c.loop-left.invariant.within);
      names = c.loop-left.invariant.names;
      texts = c.loop-left.invariant.texts;
      text = put_before (targets_text detectors part) (targets_text detectors (drop left targets)) c.args.self.now.text (targets_text detectors (drop from targets)) c.make_room.new.block.text c.make_room.new.self c.put_targets.new.self.text
          (c.put_targets.ensures ∙ ap (λ n. targets_text n.detectors part ++ c.make_room.new.block.text) c.loop-left.invariant.names)
          (c.make_room.ensures.same ∙ c.loop-left.invariant.text) (texts_and_rest (target_text detectors) targets from left le);
    }
