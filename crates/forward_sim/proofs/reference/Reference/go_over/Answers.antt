use Rattle.std.proofs.Common.{◌∷◌, sym, subst}
use Rattle.circuit_walk.specs.Steps.{listed}
use Rattle.forward_sim.specs.References.{ReferenceRun, StandBefore}
use Rattle.forward_sim.proofs.reference.Reference.go_over.Goals as goal

pub returns-clause-over : goal.returns-clause-over
returns-clause-over g c rest m k h =
    let program = c.args.program.now.listing in
    let step = listed program.qubits c.args.step.now in
    c.go_over.ensures.over rest m k
    (subst (λ (r : ReferenceRun). StandBefore program (step ∷ rest) m k r.words) (sym c.self.view_is) h)
