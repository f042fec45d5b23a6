use Rattle.std.proofs.Common.{◌∙◌}
use Rattle.tableau.proofs.KeptRows.{kept_size}
use Rattle.tableau.proofs.tableau.Tableau.len.Goals as goal

pub returns : goal.returns
returns g c = c.len.ensures ∙ (c.self.inside.rows.ok.0 ∙ kept_size c.self.inside.rows.items c.args.self.now c.self.invariant.0 c.self.view_is)
