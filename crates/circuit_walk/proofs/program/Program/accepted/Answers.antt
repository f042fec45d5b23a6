use Rattle.std.proofs.Common.{refl, subst}
use Rattle.circuit_walk.specs.Made.{IsAcceptedAs}
use Rattle.circuit_walk.specs.Programs.{KeptProgram}
use Rattle.circuit_walk.proofs.program.Program.accepted.Goals as goal

pub returns : goal.returns
returns g c =
    let fits = c.self.invariant in
    subst (λ (p : KeptProgram). IsAcceptedAs p.circuit p.listing) c.self.view_is
    (record { built = fits.written.fits; accepted = fits.accepted; listing = refl })
