use Rattle.std.proofs.Common.{◌&&◌, ap, sym, ◌∙◌}
use Rattle.bit_rows.specs.Lanes.{lane_bit}
use Rattle.bit_rows.proofs.LaneLaws.{lane_bit-zero}
use Rattle.frames.proofs.letters.lanes_where.Goals as goal

pub returns-then-some : goal.returns-then-some
returns-then-some c j = sym (ap (λ b. b && lane_bit j c.args.lanes) c.if-some.true)

pub returns-else-some : goal.returns-else-some
returns-else-some c j = lane_bit-zero j ∙ sym (ap (λ b. b && lane_bit j c.args.lanes) c.if-some.false)
