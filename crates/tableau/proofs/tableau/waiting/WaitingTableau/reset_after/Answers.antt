use Rattle.std.proofs.Common.{ap, subst, ◌∙◌}
use Rattle.pauli_word.specs.States.{applied, correcting}
use Rattle.pauli_word.specs.Words.{lone_letter}
use Rattle.tableau.specs.private.Waiting.{awaited}
use Rattle.tableau.specs.Rows.{row_count, state_of, HasState}
use Rattle.tableau.proofs.WaitingLaws.{none_waits, state_settled}
use Rattle.tableau.proofs.tableau.waiting.WaitingTableau.reset_after.Goals as goal

pub invariant_of-self : goal.invariant_of-self
invariant_of-self g c =
    none_waits c.self.inside.tableau c.reset_after.new.self c.self.inside.turns.items c.self.inside.waiting c.settle.new.waiting c.self.invariant c.settle.ensures.none
    (c.reset_after.ensures.len ∙ ap row_count (c.settle.ensures.tableau ∙ ap (λ l. awaited c.self.inside.tableau l c.self.inside.waiting) c.as_slice.ensures.value))

pub returns-then-outcome-clause-state : goal.returns-then-outcome-clause-state
returns-then-outcome-clause-state g c =
    let settled_is = c.settle.ensures.tableau ∙ (ap (λ l. awaited c.self.inside.tableau l c.self.inside.waiting) c.as_slice.ensures.value ∙ ap (λ t. t.rows) c.self.view_is) in
    state_settled (applied c.args.outcome (lone_letter (row_count c.args.self.now.rows) c.args.qubit (correcting c.args.letter))) c.settle.new.tableau c.reset_after.new.self c.args.self.now.rows c.self.inside.turns.items c.settle.new.waiting
    settled_is c.settle.ensures.none
    (subst (λ r. HasState c.reset_after.new.self (applied c.args.outcome (lone_letter (row_count r) c.args.qubit (correcting c.args.letter)) (state_of c.settle.new.tableau))) settled_is c.reset_after.ensures.state)
