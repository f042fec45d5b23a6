use Rattle.std.proofs.Common.{sym, ◌∙◌}
use Rattle.bit_rows.proofs.LaneLaws.{lane_bit-zero, lane_bit-ones}
use Rattle.bit_rows.proofs.lanes.spread.Goals as goal

pub returns-then-value : goal.returns-then-value
returns-then-value c = λ j below. lane_bit-ones j below ∙ sym c.if-value.true

pub returns-else-value : goal.returns-else-value
returns-else-value c = λ j below. lane_bit-zero j ∙ sym c.if-value.false
