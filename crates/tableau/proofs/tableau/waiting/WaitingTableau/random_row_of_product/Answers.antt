use Rattle.std.proofs.Common.{ap, subst, ◌∙◌}
use Rattle.tableau.specs.Products.{word_of_factors}
use Rattle.tableau.specs.private.Waiting.{awaited}
use Rattle.tableau.specs.Rows.{row_count, NamesRandom}
use Rattle.tableau.proofs.WaitingLaws.{none_waits}
use Rattle.tableau.proofs.tableau.waiting.WaitingTableau.random_row_of_product.Goals as goal

pub invariant_of-self : goal.invariant_of-self
invariant_of-self g c =
    none_waits c.self.inside.tableau c.random_row_of_product.new.self c.self.inside.turns.items c.self.inside.waiting c.settle.new.waiting c.self.invariant c.settle.ensures.none
    (ap row_count (c.random_row_of_product.ensures.same ∙ (c.settle.ensures.tableau ∙ ap (λ l. awaited c.self.inside.tableau l c.self.inside.waiting) c.as_slice.ensures.value)))

pub returns-clause-row : goal.returns-clause-row
returns-clause-row g c =
    subst (λ rows. NamesRandom rows (word_of_factors (row_count rows) (g.F.Factors.factors c.args.factors)) c.random_row_of_product.result)
    (c.settle.ensures.tableau ∙ (ap (λ l. awaited c.self.inside.tableau l c.self.inside.waiting) c.as_slice.ensures.value ∙ ap (λ t. t.rows) c.self.view_is))
    c.random_row_of_product.ensures.row
