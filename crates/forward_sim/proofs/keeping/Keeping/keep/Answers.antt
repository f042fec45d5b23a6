-- The step can be taken, the run goes along, and what is kept of the step is kept.
use Rattle.std.proofs.Common.{◌+◌, [], subst}
use Rattle.step_model.specs.Runs.{next}
use Rattle.forward_sim.specs.References.{walking_qubits, walking_run}
use Rattle.forward_sim.specs.SameRuns.{IsSameRun}
use Rattle.forward_sim.proofs.ReferenceSteps.{keeps_after_step}
use Rattle.forward_sim.proofs.RunLoops.{along_can, along_on}
use Rattle.forward_sim.proofs.WalkedSteps.{drop-step, listed_of}
use Rattle.forward_sim.proofs.keeping.Keeping.keep.Goals as goal

pub keep_step-requires : goal.keep_step-requires
keep_step-requires g c =
    let n = c.requires.next in
    let old = c.args.self.now.walk in
    along_can c.args.program.now n.0 c.args.step [] [] (walking_qubits old) old.room (walking_run old) c.well_formed-2.ensures n.2 (n.1 c.if-self.false).along c.requires.named

pub returns-in-Ok : goal.returns-in-Ok
returns-in-Ok g c k before here well =
    let program = c.args.program.now in
    let step = listed_of program c.args.step in
    let old = c.args.self.now.walk in
    let new = c.keep_step.new.walk in
    let walked = c.in-Ok.ensures.walked in
    let was = before well in
    record {
      along =
          along_on program k c.args.step [] [] (walking_qubits old) old.room (walking_run old) c.well_formed-2.ensures here was.along (walking_qubits new) new.room (walking_run new) walked.qubits walked.room
          walked.run;
      keeps = λ whole.
          let now = c.in-Ok.ensures.kept whole in
          keeps_after_step program.listing k (k + 1) step (walking_run old) (walking_run new) c.args.self.now.kept.replaced c.keep_step.new.kept.replaced c.well_formed-2.ensures
          (drop-step program.listing.steps k step here) was.along.rest
          (subst (λ n. IsSameRun n (walking_run new) (next program.listing [] step (walking_run old))) was.along.qubits walked.run) now.1 (was.keeps now.0);
    }
