-- The target at the place is the qubit that is reset.
use Rattle.std.proofs.Common.{◌+◌, None, false, true, subst, sym}
use Rattle.circuit_walk.specs.declared.step.Step.TheVariants.{Collapse}
use Rattle.circuit_walk.specs.private.Taken.{IsTaken}
use Rattle.circuit_walk.proofs.TakenSteps.{own_reset, small_at, taken_reset}
use Rattle.circuit_walk.proofs.instruction_steps.InstructionSteps.reset.Goals as goal

pub own_qubit-requires-clause-small : goal.own_qubit-requires-clause-small
own_qubit-requires-clause-small c = small_at c.args.self.now c.args.counts c.requires.facing c.args.self.now.at c.target.result c.target.ensures

pub own_qubit-requires-clause-own : goal.own_qubit-requires-clause-own
own_qubit-requires-clause-own c = own_reset c.args.self.now c.args.counts c.requires.facing c.args.letter c.requires.operation c.target.result c.target.ensures

pub returns : goal.returns
returns c =
    let s = c.args.self.now in
    let counts = c.args.counts in
    subst (λ q. IsTaken s counts (record { step = Collapse c.args.letter q None true false None; at = s.at + 1; counts = record counts { collapses = counts.collapses + 1 } })) (sym c.own_qubit.ensures.qubit)
    (taken_reset s counts c.requires.facing c.args.letter c.requires.operation c.target.result c.target.ensures)
