-- The step can be taken, and the run goes along.
use Rattle.std.proofs.Common.{Bool, List, subst}
use Rattle.step_model.specs.Runs.{next}
use Rattle.forward_sim.specs.SameRuns.{IsSameRun}
use Rattle.forward_sim.specs.private.Machines.{qubit_count, run_of}
use Rattle.forward_sim.proofs.RunLoops.{along_can, along_on}
use Rattle.forward_sim.proofs.WalkedSteps.{listed_of}
use Rattle.forward_sim.proofs.forward.OneRun.take.Goals as goal

pub take_step-requires : goal.take_step-requires
take_step-requires g c =
    let n = c.requires.next in
    let old = c.args.self.now.machine in
    along_can c.args.program.now n.2 c.args.step n.0 n.1 (qubit_count old) old.room (run_of old) c.well_formed-2.ensures n.4 n.3.along c.requires.named

pub returns : goal.returns
returns g c faults coins k before here =
    let program = c.args.program.now in
    let old = c.args.self.now.machine in
    let new = c.take_step.new.machine in
    let taken = c.take_step.ensures in
    record {
      same = before.same;
      along =
          along_on program k c.args.step faults coins (qubit_count old) old.room (run_of old) c.well_formed-2.ensures here before.along (qubit_count new) new.room (run_of new) taken.qubits taken.room
          (subst (λ (f : List Bool). IsSameRun (qubit_count old) (run_of new) (next program.listing f (listed_of program c.args.step) (run_of old))) before.same taken.run);
    }
