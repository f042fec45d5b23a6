use Rattle.std.proofs.Common.{cond, eqb, true, sym, ap, ◌∙◌}
use Rattle.bit_rows.proofs.BitLaws.{bit_of_put}
use Rattle.bit_rows.proofs.LaneLaws.{lane_is_bit}
use Rattle.bit_rows.proofs.lanes.with_bit.Goals as goal

pub returns : goal.returns
returns c = λ j.
    lane_is_bit j _
    ∙ (bit_of_put c.args.word c.args.lane j c.requires
    ∙ ap (cond (eqb j c.args.lane) true) (sym (lane_is_bit j c.args.word)))
