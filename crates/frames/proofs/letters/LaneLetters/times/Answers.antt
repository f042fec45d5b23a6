use Rattle.std.proofs.Common.{◌&&◌, ap, ◌∙◌}
use Rattle.bit_rows.specs.Lanes.{lane_bit}
use Rattle.pauli_word.specs.Parity.{exclusive_or}
use Rattle.frames.proofs.LaneLaws.{times-lanes}
use Rattle.frames.proofs.letters.LaneLetters.times.Goals as goal

pub returns : goal.returns
returns c j =
    let l = c.args.self in
    let runs = lane_bit j c.args.runs in
    times-lanes j l c.args.letter c.args.runs c.xor.result c.xor-2.result
    (c.xor.ensures j ∙ ap (exclusive_or (lane_bit j l.x)) (c.lanes_where.ensures j ∙ ap (λ b. b && runs) c.has_x.ensures))
    (c.xor-2.ensures j ∙ ap (exclusive_or (lane_bit j l.z)) (c.lanes_where-2.ensures j ∙ ap (λ b. b && runs) c.has_z.ensures))
