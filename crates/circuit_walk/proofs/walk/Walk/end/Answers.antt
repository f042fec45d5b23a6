use Rattle.circuit_walk.proofs.walk.Walk.end.Goals as goal

pub invariant_of-result : goal.invariant_of-result
invariant_of-result g c = c.end.ensures.course c.args.program.now c.text.ensures
