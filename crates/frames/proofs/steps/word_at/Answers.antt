use Rattle.std.proofs.Common.{◌≤◌, false, length, sym, ◌∙◌, arith}
use Rattle.std.proofs.lemmas.List as lists
use Rattle.bit_rows.specs.Lanes.{lane, lane_bit}
use Rattle.bit_rows.proofs.LaneLaws.{lane_bit-zero}
use Rattle.frames.proofs.steps.word_at.Goals as goal

pub returns-else-index-words : goal.returns-else-index-words
returns-else-index-words c j =
    let past : length (lane j c.args.words.now) ≤ c.args.index = omega (arith, lists.length-map c.args.words.now (lane_bit j)) in
    lane_bit-zero j ∙ sym (lists.get_or_past (lane j c.args.words.now) c.args.index false past)
