use Rattle.std.proofs.Common.{sym, ap₂, ◌∙◌}
use Rattle.bit_rows.specs.Rows.{exclusive_or}
use Rattle.bit_rows.proofs.BitLaws.{bit_of-xor}
use Rattle.bit_rows.proofs.LaneLaws.{lane_is_bit}
use Rattle.bit_rows.proofs.lanes.xor.Goals as goal

pub returns : goal.returns
returns c = λ j.
    lane_is_bit j _
    ∙ (bit_of-xor c.args.a c.args.b j
    ∙ ap₂ exclusive_or (sym (lane_is_bit j c.args.a)) (sym (lane_is_bit j c.args.b)))
