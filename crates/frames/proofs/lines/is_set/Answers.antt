use Rattle.std.proofs.Common.{eqb, ap}
use Rattle.std.proofs.lemmas.Nat.Bits.{shr_and_one}
use Rattle.bit_rows.specs.Lanes.{lane_bit}
use Rattle.frames.proofs.lines.is_set.Goals as goal

pub returns : goal.returns
unfolding lane_bit
returns c = ap (λ v. eqb v 1) (shr_and_one c.args.octet c.args.lane)
