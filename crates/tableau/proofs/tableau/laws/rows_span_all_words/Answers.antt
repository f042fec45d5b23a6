use Rattle.tableau.proofs.RowLaws.{span}
use Rattle.tableau.proofs.tableau.laws.rows_span_all_words.Goals as goal

pub returns : goal.returns
returns g c = span c.tableau.inside.rows.items c.args.tableau.now c.tableau.invariant.0 c.tableau.view_is
