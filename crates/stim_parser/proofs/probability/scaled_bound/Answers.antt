use Rattle.std.proofs.Common.{◌-◌, arith}
use Rattle.std.proofs.Math.Nat.{one-le-pow}
use Rattle.stim_parser.proofs.DigitLemmas.{power_at_most}
use Rattle.stim_parser.proofs.probability.scaled_bound.Goals as goal

pub pow-power-requires : goal.pow-power-requires
pow-power-requires c = omega (arith, power_at_most (c.args.down - c.args.up) 38 (omega arith))

pub nonzero_div-result : goal.nonzero_div-result
nonzero_div-result c = omega (arith, one-le-pow (c.args.down - c.args.up) 10 (omega arith), c.pow-power.ensures)
