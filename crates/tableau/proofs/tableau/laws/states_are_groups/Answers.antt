use Rattle.tableau.proofs.RowLaws.{state_group}
use Rattle.tableau.proofs.tableau.laws.states_are_groups.Goals as goal

pub returns : goal.returns
returns g c = state_group c.tableau.inside.rows.items c.args.tableau.now c.tableau.invariant.0 c.tableau.view_is
