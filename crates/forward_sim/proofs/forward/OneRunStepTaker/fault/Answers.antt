use Rattle.forward_sim.proofs.forward.OneRunStepTaker.fault.Goals as goal

pub returns : goal.returns
returns g c begun k before here = c.take.ensures _ _ _ before here
