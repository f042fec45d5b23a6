use Rattle.std.proofs.Common.{◌&&◌, sym, ap₂, ◌∙◌}
use Rattle.bit_rows.proofs.BitLaws.{bit_of-and}
use Rattle.bit_rows.proofs.LaneLaws.{lane_is_bit}
use Rattle.bit_rows.proofs.lanes.and.Goals as goal

pub returns : goal.returns
returns c = λ j.
    lane_is_bit j _
    ∙ (bit_of-and c.args.a c.args.b j
    ∙ ap₂ (λ a b. a && b) (sym (lane_is_bit j c.args.a)) (sym (lane_is_bit j c.args.b)))
