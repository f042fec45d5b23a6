-- At the start none are held; behind all detectors the lines of those that are held are left.
use Rattle.std.proofs.Common.{refl, arith, rules}
use Rattle.std.specs.Prelude.{length}
use Rattle.backward.proofs.HeldDetectorLemmas.{begins, pushed_on}
use Rattle.backward.proofs.declarations.push_detectors.Goals as goal

pub take_coordinates-requires : goal.take_coordinates-requires
take_coordinates-requires g c = (refl, refl, omega arith, c.new.ensures, begins c.args.program.now.listing.coordinates _ refl)

pub returns : goal.returns
returns g c =
    let coordinates = c.args.program.now.listing.coordinates in
    let stands = c.take_coordinates.ensures in
    let pushed =
    rw c.well_formed-2.ensures.coordinates_given
    at (pushed_on coordinates _ _ _ (length coordinates) stands.4 c.push_held.ensures.count c.push_held.ensures.pushed) in
    let same_out = stands.0 in
    let same_sink = stands.1 in
    search rules
