use Rattle.std.proofs.Common.{subst}
use Rattle.step_model.specs.WellFormed.{IsWellFormed}
use Rattle.circuit_walk.specs.Programs.{KeptProgram}
use Rattle.circuit_walk.proofs.WellFormedPrograms.{well_formed}
use Rattle.circuit_walk.specs.Made.{circuit_of}
use Rattle.circuit_walk.proofs.program.Program.well_formed.Goals as goal

pub returns : goal.returns
returns g c =
    let parts = c.self.inside.parts in
    let fits = c.self.invariant in
    subst (λ (p : KeptProgram). IsWellFormed p.listing) c.self.view_is (well_formed (circuit_of parts) fits.written.fits fits.accepted)
