-- At the start all steps are left, and at the end the records are those of the run.
use Rattle.std.proofs.Common.{◌≡◌, Bool, List, length, refl, sym, ap, ◌∙◌, subst}
use Rattle.step_model.specs.Runs.{records_of, start}
use Rattle.forward_sim.specs.SameRuns.{IsSameRun}
use Rattle.forward_sim.specs.private.Machines.{qubit_count, run_of}
use Rattle.forward_sim.proofs.RunLoops.{along_start, records_behind_all}
use Rattle.forward_sim.proofs.RunRecords.{length-records_of}
use Rattle.forward_sim.proofs.forward.take_steps.Given.{Over}
use Rattle.forward_sim.proofs.forward.take_steps.Goals as goal
use Rattle.forward_sim.proofs.forward.take_steps.Goals.{After-take_all}

pub take_all-requires : goal.take_all-requires
take_all-requires g c =
    let machine = c.in_ok-machine.machine in
    let made = c.in_ok-machine.ensures in
    let program = c.args.program.now.listing in
    record {
      same = refl;
      along =
          along_start program c.args.faults.now machine.coins (qubit_count machine) machine.room (run_of machine) c.well_formed-2.ensures
          (made.qubits ∙ c.qubits-qubits.ensures) (made.room ∙ c.record_count.ensures)
          (subst (λ (coins : List Bool). IsSameRun program.qubits (run_of machine) (start coins)) (sym made.run.coins)
          (subst (λ n. IsSameRun n (run_of machine) (start c.args.coins.now)) c.qubits-qubits.ensures made.run));
    }

-- at the end the records are those of the run
all_records : (g : Over) (c : After-take_all g) → c.take_all.new.taker.machine.records ≡ records_of c.args.program.now.listing c.args.faults.now c.args.coins.now
all_records g c =
    let program = c.args.program.now.listing in
    records_behind_all program c.args.faults.now c.in_ok-machine.machine.coins (run_of c.take_all.new.taker.machine) c.take_all.ensures.along.rest
    ∙ ap (records_of program c.args.faults.now) c.in_ok-machine.ensures.run.coins

pub returns-clause-ok : goal.returns-clause-ok
returns-clause-ok g c = c.take_records.ensures.records ∙ all_records g (goal.at.returns-clause-ok g c).After-take_all

pub returns-clause-count : goal.returns-clause-count
returns-clause-count g c =
    ap length (c.take_records.ensures.records ∙ all_records g (goal.at.returns-clause-count g c).After-take_all)
    ∙ length-records_of c.args.program.now.listing c.args.faults.now c.args.coins.now c.well_formed-2.ensures
