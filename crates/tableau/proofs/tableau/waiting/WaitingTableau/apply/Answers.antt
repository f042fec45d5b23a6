use Rattle.std.proofs.Common.{ap, ◌∙◌}
use Rattle.gate_table.specs.WordImages.{preimage_at, preimage_at_two}
use Rattle.tableau.specs.private.Waiting.{awaited}
use Rattle.tableau.specs.Rows.{row_count}
use Rattle.tableau.proofs.WaitingLaws.{none_waits, state_settled}
use Rattle.tableau.proofs.tableau.waiting.WaitingTableau.apply.Goals as goal

pub invariant_of-self : goal.invariant_of-self
invariant_of-self g c =
    none_waits c.self.inside.tableau c.apply.new.self c.self.inside.turns.items c.self.inside.waiting c.settle.new.waiting c.self.invariant c.settle.ensures.none
    (c.apply.ensures.len ∙ ap row_count (c.settle.ensures.tableau ∙ ap (λ l. awaited c.self.inside.tableau l c.self.inside.waiting) c.as_slice.ensures.value))

pub returns-clause-one : goal.returns-clause-one
returns-clause-one g c is =
    state_settled (λ s p. s (preimage_at c.args.gate c.args.a p)) c.settle.new.tableau c.apply.new.self c.args.self.now.rows c.self.inside.turns.items c.settle.new.waiting
    (c.settle.ensures.tableau ∙ (ap (λ l. awaited c.self.inside.tableau l c.self.inside.waiting) c.as_slice.ensures.value ∙ ap (λ t. t.rows) c.self.view_is)) c.settle.ensures.none (c.apply.ensures.one is)

pub returns-clause-two : goal.returns-clause-two
returns-clause-two g c is =
    state_settled (λ s p. s (preimage_at_two c.args.gate c.args.a c.args.b p)) c.settle.new.tableau c.apply.new.self c.args.self.now.rows c.self.inside.turns.items c.settle.new.waiting
    (c.settle.ensures.tableau ∙ (ap (λ l. awaited c.self.inside.tableau l c.self.inside.waiting) c.as_slice.ensures.value ∙ ap (λ t. t.rows) c.self.view_is)) c.settle.ensures.none (c.apply.ensures.two is)
