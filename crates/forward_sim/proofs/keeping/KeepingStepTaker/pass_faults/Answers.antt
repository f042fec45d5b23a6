-- No fault happens, so all leave the run as it is.
use Rattle.std.proofs.Common.{[], refl}
use Rattle.forward_sim.specs.References.{walking_qubits, walking_run}
use Rattle.forward_sim.proofs.RunLoops.{along_quiet, keeps_quiet}
use Rattle.forward_sim.proofs.keeping.KeepingStepTaker.pass_faults.Goals as goal

pub returns-clause-passed : goal.returns-clause-passed
returns-clause-passed g c begun k before are well =
    let program = c.args.program.now.listing in
    let walk = c.args.self.now.walk in
    let was = before well in
    record {
      along = along_quiet program c.well_formed-2.ensures k c.args._first c.args.count [] [] are (λ f from to. refl) (walking_qubits walk) walk.room (walking_run walk) was.along;
      keeps = λ whole. keeps_quiet program c.well_formed-2.ensures k c.args._first c.args.count are (walking_run walk) c.args.self.now.kept.replaced was.along.rest (was.keeps whole);
    }
