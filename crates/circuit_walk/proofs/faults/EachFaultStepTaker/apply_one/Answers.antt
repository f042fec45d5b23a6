-- Such a step has no fault.
use Rattle.std.proofs.Common.{refl, subst}
use Rattle.circuit_walk.proofs.FaultNumbers.{none_more}
use Rattle.circuit_walk.proofs.faults.EachFaultStepTaker.apply_one.Goals as goal

pub returns : goal.returns
returns g c begun k stands at =
    let program = c.args._program.now in
    (stands.0, subst (λ m. g.T.FaultTaker.stands program begun.taker.now m c.args.self.now.taker.now) (none_more program.listing k _ at refl) stands.1)
