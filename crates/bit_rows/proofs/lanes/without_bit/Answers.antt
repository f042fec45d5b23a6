use Rattle.std.proofs.Common.{sym, ◌∙◌}
use Rattle.bit_rows.proofs.BitLaws.{less_without}
use Rattle.bit_rows.proofs.LaneLaws.{lane_is_bit, taken_out}
use Rattle.bit_rows.proofs.lanes.without_bit.Goals as goal

pub returns-clause-lanes : goal.returns-clause-lanes
returns-clause-lanes c = λ j. taken_out c.args.word c.args.lane j c.requires.within c.requires.is_set

pub returns-clause-less : goal.returns-clause-less
returns-clause-less c = less_without c.args.word c.args.lane c.requires.within (sym (lane_is_bit c.args.lane c.args.word) ∙ c.requires.is_set)
