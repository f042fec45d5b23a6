use Rattle.circuit_walk.proofs.walk.Walk.start.Goals as goal

pub invariant_of-result : goal.invariant_of-result
invariant_of-result g c = c.start.ensures.course c.args.program.now c.text.ensures
