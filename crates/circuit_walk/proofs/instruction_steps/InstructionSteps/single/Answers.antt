-- The target at the place is the qubit of a gate.
use Rattle.std.proofs.Common.{◌+◌, subst, sym}
use Rattle.circuit_walk.specs.declared.step.Step.TheVariants.{One}
use Rattle.circuit_walk.specs.private.Taken.{IsTaken}
use Rattle.circuit_walk.proofs.TakenSteps.{own_single, small_at, taken_single}
use Rattle.circuit_walk.proofs.instruction_steps.InstructionSteps.single.Goals as goal

pub own_qubit-requires-clause-small : goal.own_qubit-requires-clause-small
own_qubit-requires-clause-small c = small_at c.args.self.now c.args.counts c.requires.facing c.args.self.now.at c.target.result c.target.ensures

pub own_qubit-requires-clause-own : goal.own_qubit-requires-clause-own
own_qubit-requires-clause-own c = own_single c.args.self.now c.args.counts c.requires.facing c.args.gate c.requires.operation c.requires.arity c.target.result c.target.ensures

pub returns : goal.returns
returns c =
    let s = c.args.self.now in
    let counts = c.args.counts in
    subst (λ q. IsTaken s counts (record { step = One c.args.gate q; at = s.at + 1; counts = counts })) (sym c.own_qubit.ensures.qubit)
    (taken_single s counts c.requires.facing c.args.gate c.requires.operation c.requires.arity c.target.result c.target.ensures)
