use Rattle.tableau.proofs.RowLaws.{stabilizers_commute, destabilizers_commute, pairs_anticommute, others_commute}
use Rattle.tableau.proofs.tableau.laws.rows_anticommute_in_pairs.Goals as goal

pub returns-clause-stabilizers : goal.returns-clause-stabilizers
returns-clause-stabilizers g c = stabilizers_commute c.tableau.inside.rows.items c.args.tableau.now c.tableau.invariant.0 c.tableau.view_is

pub returns-clause-destabilizers : goal.returns-clause-destabilizers
returns-clause-destabilizers g c = destabilizers_commute c.tableau.inside.rows.items c.args.tableau.now c.tableau.invariant.0 c.tableau.view_is

pub returns-clause-pair : goal.returns-clause-pair
returns-clause-pair g c = pairs_anticommute c.tableau.inside.rows.items c.args.tableau.now c.tableau.invariant.0 c.tableau.view_is

pub returns-clause-others : goal.returns-clause-others
returns-clause-others g c = others_commute c.tableau.inside.rows.items c.args.tableau.now c.tableau.invariant.0 c.tableau.view_is
