-- The turns are made, or one more waits.
use Rattle.std.proofs.Common.{◌≡◌, ◌++◌, length, take, drop, ap, sym, subst, ◌∙◌}
use Rattle.tableau.specs.private.Waiting.{awaited, Waits}
use Rattle.tableau.specs.Rows.{row_count}
use Rattle.tableau.proofs.ControlledRows.{written_back}
use Rattle.tableau.proofs.WaitingLaws.{none_awaited, none_waits}
use Rattle.tableau.proofs.WaitingSteps.{state_carried}
use Rattle.tableau.proofs.tableau.waiting.WaitingTableau.measure_unseen.Given.{Over}
use Rattle.tableau.proofs.tableau.waiting.WaitingTableau.measure_unseen.Goals as goal
use Rattle.tableau.proofs.tableau.waiting.WaitingTableau.measure_unseen.Goals.{After-measure_waiting-outcome}

pub invariant_of-self : goal.invariant_of-self
invariant_of-self g c =
    none_waits c.self.inside.tableau c.measure.new.self c.self.inside.turns.items c.self.inside.waiting c.settle.new.waiting c.self.invariant c.settle.ensures.none
    (c.measure.ensures.len ∙ ap row_count (c.settle.ensures.tableau ∙ ap (λ l. awaited c.self.inside.tableau l c.self.inside.waiting) c.as_slice.ensures.value))

pub returns-then-not-shall_wait-clause-state : goal.returns-then-not-shall_wait-clause-state
returns-then-not-shall_wait-clause-state g c =
    let settled = c.settle.ensures.tableau ∙ (ap (λ l. awaited c.self.inside.tableau l c.self.inside.waiting) c.as_slice.ensures.value ∙ ap (λ t. t.rows) c.self.view_is) in
    state_carried _ _ c.args.qubit c.args.letter c.args.coin c.settle.new.tableau c.args.self.now.rows c.measure.new.self _ (ap row_count settled) settled
    (none_awaited c.measure.new.self c.self.inside.turns.items c.settle.new.waiting c.settle.ensures.none) c.measure.ensures.state

-- the turns, as they are put back
turns_back : (g : Over) (c : After-measure_waiting-outcome g) → take c.self.inside.turns.len (c.measure_waiting-outcome.new.turns ++ drop (length c.measure_waiting-outcome.new.turns) c.self.inside.turns.items) ≡ c.measure_waiting-outcome.new.turns
turns_back g c =
    written_back c.measure_waiting-outcome.new.turns (drop (length c.measure_waiting-outcome.new.turns) c.self.inside.turns.items) c.self.inside.turns.len (c.measure_waiting-outcome.auto.turns ∙ c.as_mut_slice.ensures.len)

pub invariant_of-self-2 : goal.invariant_of-self-2
invariant_of-self-2 g c =
    subst (λ l. Waits c.measure_waiting-outcome.new.tableau l c.measure_waiting-outcome.new.waiting) (sym (turns_back g (goal.at.invariant_of-self-2 g c).After-measure_waiting-outcome)) c.measure_waiting-outcome.ensures.waits

pub returns-clause-state : goal.returns-clause-state
returns-clause-state g c =
    let at = ap (λ l. awaited c.self.inside.tableau l c.self.inside.waiting) c.as_mut_slice.ensures.value ∙ ap (λ t. t.rows) c.self.view_is in
    state_carried (row_count c.self.inside.tableau) (row_count c.args.self.now.rows) c.args.qubit c.args.letter c.args.coin
    (awaited c.self.inside.tableau c.as_mut_slice.result.now c.self.inside.waiting) c.args.self.now.rows
    (awaited c.measure_waiting-outcome.new.tableau c.measure_waiting-outcome.new.turns c.measure_waiting-outcome.new.waiting) _
    (sym c.self.invariant.ready.len ∙ ap (λ t. row_count t.rows) c.self.view_is) at
    (ap (λ l. awaited c.measure_waiting-outcome.new.tableau l c.measure_waiting-outcome.new.waiting) (turns_back g (goal.at.returns-clause-state g c).After-measure_waiting-outcome))
    c.measure_waiting-outcome.ensures.state
