use Rattle.tableau.proofs.StartLaws.{start_tableau, start_size, identity_long, start_seen}
use Rattle.tableau.proofs.tableau.Tableau.start.Goals as goal

pub invariant_of-result : goal.invariant_of-result
invariant_of-result g c = (
  start_tableau c.args.n c.in_ok-rows.rows.items c.in_ok-rows.ensures,
  identity_long c.args.n c.in_ok-rows.rows.items c.in_ok-rows.ensures c.in_ok-first.first c.in_ok-first.ensures,
  identity_long c.args.n c.in_ok-rows.rows.items c.in_ok-rows.ensures c.in_ok-second.second c.in_ok-second.ensures,
)

pub returns-clause-len : goal.returns-clause-len
returns-clause-len g c = start_size c.args.n c.in_ok-rows.rows.items c.in_ok-rows.ensures

pub returns-clause-state : goal.returns-clause-state
returns-clause-state g c = start_seen c.args.n c.in_ok-rows.rows.items c.in_ok-rows.ensures
