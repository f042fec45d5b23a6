use Rattle.std.proofs.Common.{◌≤◌, ◌-◌, take, drop, ◌∙◌, arith}
use Rattle.error_models.proofs.HeldTextLemmas.{part_and_rest, put_before}
use Rattle.error_models.proofs.lines_text.LinesText.put.Goals as goal

pub loop-left-preserved : goal.loop-left-preserved
loop-left-preserved g c =
    let bytes = c.args.bytes.now in
    let left = c.loop-left.left in
    let from = c.saturating_sub-from.result in
    let le : from ≤ left = omega (arith, c.saturating_sub-from.ensures) in
    record {
      within = omega (arith, le, c.loop-left.invariant.within);
      names = c.loop-left.invariant.names;
      texts = c.loop-left.invariant.texts;
      text = put_before (take (left - from) (drop from bytes)) (drop left bytes) c.args.self.now.text (drop from bytes) c.make_room.new.block.text c.make_room.new.self c.put.new.self.text
          c.put.ensures (c.make_room.ensures.same ∙ c.loop-left.invariant.text) (part_and_rest bytes from left le);
    }
