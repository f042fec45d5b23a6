-- The target at the place is the qubit that is measured.
use Rattle.std.proofs.Common.{◌+◌, ℕ, Bool, Some, subst, sym}
use Rattle.stim_parser.specs.Limits.{qubit_of}
use Rattle.stim_parser.specs.declared.operation.Operation.TheVariants.{ProductMeasurement}
use Rattle.circuit_walk.specs.declared.step.Step.TheVariants.{Collapse}
use Rattle.circuit_walk.specs.private.InstructionSteps.{counts_behind}
use Rattle.circuit_walk.specs.private.Taken.{IsTaken}
use Rattle.circuit_walk.proofs.TakenSteps.{own_measured, small_at, taken_measured}
use Rattle.circuit_walk.proofs.instruction_steps.InstructionSteps.measured.Goals as goal

pub own_qubit-qubit-requires-clause-small : goal.own_qubit-qubit-requires-clause-small
own_qubit-qubit-requires-clause-small c = small_at c.args.self.now c.args.counts c.requires.facing c.args.self.now.at c.target.result c.target.ensures

pub own_qubit-qubit-requires-clause-own : goal.own_qubit-qubit-requires-clause-own
own_qubit-qubit-requires-clause-own c = own_measured c.args.self.now c.args.counts c.requires.facing c.args.letter c.args.reset c.requires.operation c.target.result c.target.ensures

pub returns : goal.returns
returns c =
    let s = c.args.self.now in
    let counts = c.args.counts in
    let of : ℕ → Bool → Type 0 =
    λ q inverted. IsTaken s counts (record { step = Collapse c.args.letter q (Some counts.records) c.args.reset inverted c.flip.result; at = s.at + 1; counts = counts_behind ProductMeasurement s.flips counts }) in
    subst (λ q. of q c.own_qubit-qubit.result.1) (sym c.own_qubit-qubit.ensures.qubit)
    (subst (of (qubit_of c.target.result)) (sym c.own_qubit-qubit.ensures.inverted)
    (taken_measured s counts c.requires.facing c.args.letter c.args.reset c.requires.operation c.target.result c.target.ensures c.flip.result c.flip.ensures.number c.flip.ensures.next))
