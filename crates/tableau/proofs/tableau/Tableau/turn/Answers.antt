use Rattle.std.proofs.Common.{length, ap, sym, subst, ◌∙◌}
use Rattle.tableau.specs.private.Decoding.{rows_seen}
use Rattle.tableau.specs.private.Encoding.{HasLength, IsTableau}
use Rattle.tableau.proofs.WaitingMeasurements.{after_count, after_is, after_seen, ready}
use Rattle.tableau.proofs.tableau.Tableau.turn.Goals as goal

pub turn_rows_by_all-requires : goal.turn_rows_by_all-requires
turn_rows_by_all-requires g c = ready c.self.inside.rows.items c.args.self.now c.self.invariant.0 c.self.view_is c.args.turns.now c.requires

pub invariant_of-self : goal.invariant_of-self
invariant_of-self g c =
    let rows = c.self.inside.rows.items in
    let new = c.turn_rows_by_all.new.rows.items in
    let long = sym (ap length c.turn_rows_by_all.ensures ∙ after_count rows c.args.self.now c.self.invariant.0 c.self.view_is c.args.turns.now c.requires) in (
      subst (λ l. IsTableau (length l) l) (sym c.turn_rows_by_all.ensures) (after_is rows c.args.self.now c.self.invariant.0 c.self.view_is c.args.turns.now c.requires),
      subst (λ m. HasLength m c.self.inside.first) long c.self.invariant.1,
      subst (λ m. HasLength m c.self.inside.second) long c.self.invariant.2,
    )

pub returns : goal.returns
returns g c =
    ap rows_seen c.turn_rows_by_all.ensures
    ∙ after_seen c.self.inside.rows.items c.args.self.now c.self.invariant.0 c.self.view_is c.args.turns.now c.requires
