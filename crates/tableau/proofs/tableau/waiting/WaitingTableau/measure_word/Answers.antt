use Rattle.std.proofs.Common.{ap, ◌∙◌}
use Rattle.pauli_word.specs.States.{collapsed}
use Rattle.tableau.specs.private.Waiting.{awaited}
use Rattle.tableau.specs.Rows.{row_count}
use Rattle.tableau.proofs.WaitingLaws.{none_waits, state_settled}
use Rattle.tableau.proofs.tableau.waiting.WaitingTableau.measure_word.Goals as goal

pub invariant_of-self : goal.invariant_of-self
invariant_of-self g c =
    none_waits c.self.inside.tableau c.measure_word.new.self c.self.inside.turns.items c.self.inside.waiting c.settle.new.waiting c.self.invariant c.settle.ensures.none
    (c.measure_word.ensures.len ∙ ap row_count (c.settle.ensures.tableau ∙ ap (λ l. awaited c.self.inside.tableau l c.self.inside.waiting) c.as_slice.ensures.value))

pub returns-clause-state : goal.returns-clause-state
returns-clause-state g c =
    state_settled (collapsed c.args.word.now.letters c.args.coin) c.settle.new.tableau c.measure_word.new.self c.args.self.now.rows c.self.inside.turns.items c.settle.new.waiting
    (c.settle.ensures.tableau ∙ (ap (λ l. awaited c.self.inside.tableau l c.self.inside.waiting) c.as_slice.ensures.value ∙ ap (λ t. t.rows) c.self.view_is)) c.settle.ensures.none c.measure_word.ensures.state
