-- A fault applies the word of the letters that it lends.
use Rattle.std.proofs.Common.{sym, subst}
use Rattle.circuit_walk.specs.Steps.{listed}
use Rattle.step_model.specs.Runs.{next}
use Rattle.forward_sim.specs.private.Machines.{ComesTo, qubit_count, run_of}
use Rattle.forward_sim.proofs.StepLetters.{fault_lent, fault_taken, product_lent}
use Rattle.forward_sim.proofs.steps.take_step.Goals as goal

pub collapse_word-requires-clause-small : goal.collapse_word-requires-clause-small
collapse_word-requires-clause-small g c =
    let s = c.in-CollapseWord in
    (product_lent c.args.program.now c.args.step (qubit_count c.args.machine.now) c.requires.of_program c.requires.qubits s.letters s.rec s.inverted s.flip s.is).small

pub collapse_word-requires-clause-fit : goal.collapse_word-requires-clause-fit
collapse_word-requires-clause-fit g c =
    let s = c.in-CollapseWord in
    (product_lent c.args.program.now c.args.step (qubit_count c.args.machine.now) c.requires.of_program c.requires.qubits s.letters s.rec s.inverted s.flip s.is).fit

pub take_fault-requires : goal.take_fault-requires
take_fault-requires g c =
    let s = c.in-Fault in
    let lent = fault_lent c.args.program.now c.args.step (qubit_count c.args.machine.now) c.requires.of_program c.requires.qubits s.name s.letters s.is in
    record { small = lent.small; fit = lent.fit }

pub returns-in-Fault : goal.returns-in-Fault
returns-in-Fault g c =
    let program = c.args.program.now in
    let old = c.args.machine.now in
    let s = c.in-Fault in
    let taken = fault_taken program c.args.step (qubit_count old) c.requires.of_program c.requires.qubits s.name s.letters s.is c.args.faults.now (run_of old) in
    subst (λ step. ComesTo old c.take_fault.new.machine (next program.listing c.args.faults.now (listed program.listing.qubits step) (run_of old))) (sym s.is)
    (subst (ComesTo old c.take_fault.new.machine) (sym taken) c.take_fault.ensures)
