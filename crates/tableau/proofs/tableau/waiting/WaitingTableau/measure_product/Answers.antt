use Rattle.std.proofs.Common.{◌≡◌, ap, subst, ◌∙◌}
use Rattle.pauli_word.specs.States.{collapsed}
use Rattle.tableau.specs.Products.{word_of_factors}
use Rattle.tableau.specs.private.Waiting.{awaited}
use Rattle.tableau.specs.Rows.{row_count, state_of, HasState}
use Rattle.tableau.proofs.WaitingLaws.{none_waits, state_settled}
use Rattle.tableau.proofs.tableau.waiting.WaitingTableau.measure_product.Given.{Over}
use Rattle.tableau.proofs.tableau.waiting.WaitingTableau.measure_product.Goals as goal
use Rattle.tableau.proofs.tableau.waiting.WaitingTableau.measure_product.Goals.{After-settle}

-- no turn waits any more
settled : (g : Over) (c : After-settle g) → c.settle.new.tableau ≡ c.args.self.now.rows
settled g c =
    c.settle.ensures.tableau ∙ (ap (λ l. awaited c.self.inside.tableau l c.self.inside.waiting) c.as_slice.ensures.value ∙ ap (λ t. t.rows) c.self.view_is)

pub invariant_of-self : goal.invariant_of-self
invariant_of-self g c =
    none_waits c.self.inside.tableau c.measure_product.new.self c.self.inside.turns.items c.self.inside.waiting c.settle.new.waiting c.self.invariant c.settle.ensures.none
    (c.measure_product.ensures.len ∙ ap row_count (c.settle.ensures.tableau ∙ ap (λ l. awaited c.self.inside.tableau l c.self.inside.waiting) c.as_slice.ensures.value))

pub returns-clause-state : goal.returns-clause-state
returns-clause-state g c =
    let same = settled g (goal.at.returns-clause-state g c).After-settle in
    let factors = g.F.Factors.factors c.args.factors in
    state_settled (collapsed (word_of_factors (row_count c.args.self.now.rows) factors) c.args.coin) c.settle.new.tableau c.measure_product.new.self c.args.self.now.rows c.self.inside.turns.items c.settle.new.waiting
    same c.settle.ensures.none
    (subst (λ n. HasState c.measure_product.new.self (collapsed (word_of_factors n factors) c.args.coin (state_of c.settle.new.tableau))) (ap row_count same) c.measure_product.ensures.state)
