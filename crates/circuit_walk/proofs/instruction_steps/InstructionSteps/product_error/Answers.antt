-- The letters of all targets are those that the fault applies.
use Rattle.std.proofs.Common.{refl}
use Rattle.circuit_walk.proofs.TakenSteps.{taken_product_error}
use Rattle.circuit_walk.proofs.instruction_steps.InstructionSteps.product_error.Goals as goal

pub returns : goal.returns
returns c = taken_product_error c.args.self.now c.args.counts c.requires.facing c.requires.operation _ refl refl
