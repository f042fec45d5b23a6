-- Where 0 and 1 go shows the map.
use Rattle.forward_sim.proofs.JumpLemmas.{jump_shown}
use Rattle.forward_sim.proofs.jump.Jump.of.Goals as goal

pub invariant_of-result : goal.invariant_of-result
invariant_of-result c = record { one_step = jump_shown c.args.stream c.args.words c.state_after-plus.result c.state_after.result c.state_after-plus.ensures c.state_after.ensures }
