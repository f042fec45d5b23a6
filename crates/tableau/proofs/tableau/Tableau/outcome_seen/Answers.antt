use Rattle.std.proofs.Common.{◌<◌, sym, subst}
use Rattle.tableau.proofs.KeptRows.{inside}
use Rattle.tableau.proofs.SeenOutcomes.{seen_owed}
use Rattle.tableau.proofs.tableau.Tableau.outcome_seen.Goals as goal

pub index-requires : goal.index-requires
index-requires g c = subst (λ m. c.args.qubit < m) (sym (c.self.inside.rows.ok.0)) (inside c.self.inside.rows.items c.args.self.now c.self.invariant.0 c.self.view_is c.args.qubit c.requires)

pub returns : goal.returns
returns g c =
    seen_owed c.self.inside.rows.items c.args.self.now c.self.invariant.0 c.self.view_is c.args.qubit
    (inside c.self.inside.rows.items c.args.self.now c.self.invariant.0 c.self.view_is c.args.qubit c.requires)
    c.index.result.now c.index.ensures c.args.letter c.sign_seen.result c.sign_seen.ensures
