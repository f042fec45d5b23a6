use Rattle.std.proofs.Common.{arith}
use Rattle.bit_rows.proofs.Carries.{carried_is, count_ones_le}
use Rattle.bit_rows.proofs.phase.power_held.Goals as goal

pub overflow_mul-result : goal.overflow_mul-result
overflow_mul-result c = record { fits = omega (arith, count_ones_le c.args.twos c.ranges.twos.fits) }

pub overflow_add-result : goal.overflow_add-result
overflow_add-result c = record { fits = omega (arith, count_ones_le c.args.ones c.ranges.ones.fits, count_ones_le c.args.twos c.ranges.twos.fits) }

pub returns-clause-value : goal.returns-clause-value
returns-clause-value c = carried_is c.args.ones c.args.twos c.ranges.ones.fits c.ranges.twos.fits

pub returns-clause-small : goal.returns-clause-small
returns-clause-small c = omega (arith, count_ones_le c.args.ones c.ranges.ones.fits, count_ones_le c.args.twos c.ranges.twos.fits)
