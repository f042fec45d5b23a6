use Rattle.std.proofs.Common.{◌<◌, length, sym, subst, ◌∙◌, arith}
use Rattle.tableau.specs.private.Encoding.{HasLength}
use Rattle.tableau.proofs.KeptRows.{inside}
use Rattle.tableau.proofs.PairWords.{pair_size}
use Rattle.tableau.proofs.tableau.Tableau.seems_dense.Given.{Over}
use Rattle.tableau.proofs.tableau.Tableau.seems_dense.Goals as goal
use Rattle.tableau.proofs.tableau.Tableau.seems_dense.Goals.{After-index-pair}

pub index-pair-requires : goal.index-pair-requires
index-pair-requires g c = subst (λ m. c.args.qubit < m) (sym c.self.inside.rows.ok.0) (inside c.self.inside.rows.items c.args.self.now c.self.invariant.0 c.self.view_is c.args.qubit c.requires)

long : (g : Over) (c : After-index-pair g) → HasLength (length c.self.inside.rows.items) c.index-pair.result.now
long g c =
    pair_size c.self.inside.rows.items c.self.invariant.0 c.args.qubit c.index-pair.result.now
    (inside c.self.inside.rows.items c.args.self.now c.self.invariant.0 c.self.view_is c.args.qubit c.requires) c.index-pair.ensures

pub seems_dense-requires-clause-size : goal.seems_dense-requires-clause-size
seems_dense-requires-clause-size g c =
    (long g (goal.at.seems_dense-requires-clause-size g c).After-index-pair).z ∙ sym (c.len.ensures ∙ c.self.inside.rows.ok.0)

pub seems_dense-requires-in_default : goal.seems_dense-requires-in_default
seems_dense-requires-in_default g c =
    let here = inside c.self.inside.rows.items c.args.self.now c.self.invariant.0 c.self.view_is c.args.qubit c.requires in
    let count = c.len-in_default.ensures ∙ c.self.inside.rows.ok.0 in
    record { size = (long g (goal.at.seems_dense-requires-in_default g c).After-index-pair).x ∙ sym count; some = omega (arith, here, count) }
