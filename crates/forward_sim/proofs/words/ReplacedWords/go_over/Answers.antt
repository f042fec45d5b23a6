-- The list stays, and a run that goes along takes the step.
use Rattle.circuit_walk.specs.Steps.{listed}
use Rattle.forward_sim.proofs.WordsSaid.{over_kept, over_walked}
use Rattle.forward_sim.proofs.words.ReplacedWords.go_over.Goals as goal

pub returns-in-Kept-clause-over : goal.returns-in-Kept-clause-over
returns-in-Kept-clause-over g c rest m k h =
    let program = c.args.program.now.listing in
    let step = listed program.qubits c.args.step.now in
    rw c.in-Kept.is (over_kept program step rest m k c.in-Kept.field-0.replaced (rw c.in-Kept.is at h))

pub returns-in-Walked-clause-over : goal.returns-in-Walked-clause-over
returns-in-Walked-clause-over g c rest m k h =
    let program = c.args.program.now.listing in
    let step = listed program.qubits c.args.step.now in
    over_walked program step rest m k c.in-Walked.walk c.go_over.new.self c.go_over.ensures.walked.qubits c.go_over.ensures.walked.room c.go_over.ensures.walked.run c.go_over.ensures.entry
    (rw c.in-Walked.is at h)
