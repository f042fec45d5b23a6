-- The letter at the target of the place is the one that the fault applies.
use Rattle.std.proofs.Common.{refl}
use Rattle.circuit_walk.proofs.StepLemmas.{there_is}
use Rattle.circuit_walk.proofs.TakenSteps.{below_targets, taken_letter}
use Rattle.circuit_walk.proofs.instruction_steps.InstructionSteps.letter_error.Goals as goal

pub returns : goal.returns
returns c =
    let s = c.args.self.now in
    let t = there_is s.targets.now s.at (below_targets s c.args.counts c.requires.facing c.args.letter c.requires.operation) in
    taken_letter s c.args.counts c.requires.facing c.args.letter c.requires.operation t.0 t.1 _ refl refl
