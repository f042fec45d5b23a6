-- There are few detectors, so the number of the next one fits.
use Rattle.std.proofs.Common.{arith}
use Rattle.backward.proofs.declarations.push_held.Goals as goal

pub overflow_add-desk : goal.overflow_add-desk
overflow_add-desk g c = omega (arith, c.requires.few, c.well_formed-2.ensures.few_detectors, c.requires.held.within, c.well_formed-2.ensures.coordinates_given)
