-- Faults that don't happen leave the run as it is.
use Rattle.std.proofs.Common.{subst, ◌+◌, arith}
use Rattle.std.specs.Prelude.{Bool, List}
use Rattle.forward_sim.specs.private.Machines.{qubit_count, run_of}
use Rattle.forward_sim.specs.private.Quiet.{NoneHappens}
use Rattle.forward_sim.proofs.RunLoops.{along_quiet, none_happens}
use Rattle.forward_sim.proofs.forward.OneRunStepTaker.pass_faults.Goals as goal

pub returns-clause-passed : goal.returns-clause-passed
returns-clause-passed g c begun k before are =
    let m = c.args.self.now.machine in
    let passed = c.quiet_count.result in
    let first = c.args.first in
    record {
      same = before.same;
      along =
          along_quiet c.args.program.now.listing c.well_formed-2.ensures k first passed begun.faults.now begun.machine.coins
          (λ i below. are i (omega (arith, below, c.quiet_count.ensures.few)))
          (subst (λ (f : List Bool). NoneHappens f first (first + passed)) before.same (none_happens c.args.self.now.faults.now first (first + passed) c.quiet_count.ensures.none))
          (qubit_count m) m.room (run_of m) before.along;
    }
