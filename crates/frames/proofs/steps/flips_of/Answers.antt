use Rattle.bit_rows.proofs.LaneLaws.{lane_bit-zero}
use Rattle.frames.proofs.steps.flips_of.Goals as goal

pub returns-in-None : goal.returns-in-None
returns-in-None c = rw c.in-None.is lane_bit-zero
