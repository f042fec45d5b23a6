use Rattle.std.proofs.Common.{sym, ◌∙◌}
use Rattle.bit_rows.proofs.BitLaws.{bit_of_shift}
use Rattle.bit_rows.proofs.LaneLaws.{lane_is_bit}
use Rattle.bit_rows.proofs.lanes.bit.Goals as goal

pub returns : goal.returns
returns c = bit_of_shift c.args.word c.args.lane ∙ sym (lane_is_bit c.args.lane c.args.word)
