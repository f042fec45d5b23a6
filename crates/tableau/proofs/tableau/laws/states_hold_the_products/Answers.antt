use Rattle.tableau.proofs.RowLaws.{products_in, member_is_product}
use Rattle.tableau.proofs.tableau.laws.states_hold_the_products.Goals as goal

pub returns-clause-products : goal.returns-clause-products
returns-clause-products g c = products_in c.tableau.inside.rows.items c.args.tableau.now c.tableau.invariant.0 c.tableau.view_is

pub returns-clause-members : goal.returns-clause-members
returns-clause-members g c = member_is_product c.tableau.inside.rows.items c.args.tableau.now c.tableau.invariant.0 c.tableau.view_is
