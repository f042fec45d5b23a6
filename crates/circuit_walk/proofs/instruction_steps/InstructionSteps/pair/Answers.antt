-- The two targets at the place are a pair of the gate.
use Rattle.std.proofs.Common.{◌+◌}
use Rattle.circuit_walk.proofs.TakenSteps.{small_at, second_of_pair, near_pair, taken_pair}
use Rattle.circuit_walk.proofs.TargetLemmas.{near_target}
use Rattle.circuit_walk.proofs.instruction_steps.InstructionSteps.pair.Goals as goal

pub target-second-requires : goal.target-second-requires
target-second-requires c = second_of_pair c.args.self.now c.args.counts c.requires.facing c.args.gate c.requires.operation c.requires.arity

pub pair_step-requires-clause-first : goal.pair_step-requires-clause-first
pair_step-requires-clause-first c = small_at c.args.self.now c.args.counts c.requires.facing c.args.self.now.at c.target-first.result c.target-first.ensures

pub pair_step-requires-clause-second : goal.pair_step-requires-clause-second
pair_step-requires-clause-second c = small_at c.args.self.now c.args.counts c.requires.facing (c.args.self.now.at + 1) c.target-second.result c.target-second.ensures

pub pair_step-requires-clause-near_first : goal.pair_step-requires-clause-near_first
pair_step-requires-clause-near_first c =
    near_target c.args.counts.records c.args.self.now.targets.now c.args.self.now.at _ (near_pair c.args.self.now c.args.counts c.requires.facing c.args.gate c.requires.operation) c.target-first.ensures

pub pair_step-requires-clause-near_second : goal.pair_step-requires-clause-near_second
pair_step-requires-clause-near_second c =
    near_target c.args.counts.records c.args.self.now.targets.now (c.args.self.now.at + 1) _ (near_pair c.args.self.now c.args.counts c.requires.facing c.args.gate c.requires.operation) c.target-second.ensures

pub returns : goal.returns
returns c =
    taken_pair c.args.self.now c.args.counts c.requires.facing c.args.gate c.requires.operation c.requires.arity c.target-first.result c.target-second.result c.target-first.ensures c.target-second.ensures
    c.pair_step.result c.pair_step.ensures
