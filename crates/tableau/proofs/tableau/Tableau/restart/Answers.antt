use Rattle.std.proofs.Common.{length, sym, subst, ◌∙◌}
use Rattle.tableau.specs.private.Encoding.{HasLength}
use Rattle.tableau.proofs.KeptRows.{kept_size}
use Rattle.tableau.proofs.StartLaws.{start_tableau, start_length, start_size, start_seen}
use Rattle.tableau.proofs.tableau.Tableau.restart.Goals as goal

pub restart_pairs-requires : goal.restart_pairs-requires
restart_pairs-requires g c q h = record { x = c.self.invariant.0.x_size q h; z = c.self.invariant.0.z_size q h }

pub invariant_of-self : goal.invariant_of-self
invariant_of-self g c =
    let n = length c.self.inside.rows.items in
    let rows = c.restart_pairs.new.rows.items in
    let size = sym (start_length n rows c.restart_pairs.ensures) in (
      start_tableau n rows c.restart_pairs.ensures,
      subst (λ m. HasLength m c.self.inside.first) size c.self.invariant.1,
      subst (λ m. HasLength m c.self.inside.second) size c.self.invariant.2,
    )

pub returns-clause-len : goal.returns-clause-len
returns-clause-len g c =
    let n = length c.self.inside.rows.items in
    start_size n c.restart_pairs.new.rows.items c.restart_pairs.ensures
    ∙ kept_size c.self.inside.rows.items c.args.self.now c.self.invariant.0 c.self.view_is

pub returns-clause-state : goal.returns-clause-state
returns-clause-state g c =
    let n = length c.self.inside.rows.items in
    start_seen n c.restart_pairs.new.rows.items c.restart_pairs.ensures
