use Rattle.tableau.proofs.RowLaws.{destabilizer_count, stabilizer_sizes, destabilizer_sizes}
use Rattle.tableau.proofs.tableau.laws.rows_have_all_letters.Goals as goal

pub returns-clause-count : goal.returns-clause-count
returns-clause-count g c = destabilizer_count c.tableau.inside.rows.items c.args.tableau.now c.tableau.invariant.0 c.tableau.view_is

pub returns-clause-stabilizers : goal.returns-clause-stabilizers
returns-clause-stabilizers g c = stabilizer_sizes c.tableau.inside.rows.items c.args.tableau.now c.tableau.invariant.0 c.tableau.view_is

pub returns-clause-destabilizers : goal.returns-clause-destabilizers
returns-clause-destabilizers g c = destabilizer_sizes c.tableau.inside.rows.items c.args.tableau.now c.tableau.invariant.0 c.tableau.view_is
