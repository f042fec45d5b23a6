use Rattle.tableau.proofs.RowLaws.{complete}
use Rattle.tableau.proofs.tableau.laws.stabilizers_are_complete.Goals as goal

pub returns : goal.returns
returns g c = complete c.tableau.inside.rows.items c.args.tableau.now c.tableau.invariant.0 c.tableau.view_is
