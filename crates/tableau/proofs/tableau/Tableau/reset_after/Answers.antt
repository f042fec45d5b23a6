use Rattle.std.proofs.Common.{◌∙◌}
use Rattle.tableau.specs.Rows.{row_count, state_of}
use Rattle.tableau.proofs.PauliGates.{corrected_by_X, corrected_by_Z, not_corrected}
use Rattle.tableau.proofs.tableau.Tableau.reset_after.Goals as goal

pub returns-in-I-clause-state : goal.returns-in-I-clause-state
returns-in-I-clause-state g c p h =
    not_corrected (row_count c.args.self.now) c.args.qubit c.requires p h (state_of c.args.self.now) c.args.letter c.args.outcome c.if-outcome.true c.in-I.is

pub returns-in-X-clause-state : goal.returns-in-X-clause-state
returns-in-X-clause-state g c p h =
    c.apply_one.ensures.state p h
    ∙ corrected_by_Z (row_count c.args.self.now) c.args.qubit c.requires p (h ∙ c.apply_one.ensures.len) (state_of c.args.self.now) c.args.letter c.args.outcome c.if-outcome.true c.in-X.is

pub returns-in-Y-clause-state : goal.returns-in-Y-clause-state
returns-in-Y-clause-state g c p h =
    c.apply_one-in-Y.ensures.state p h
    ∙ corrected_by_X (row_count c.args.self.now) c.args.qubit c.requires p (h ∙ c.apply_one-in-Y.ensures.len) (state_of c.args.self.now) c.args.letter c.args.outcome c.if-outcome.true c.in-Y.is
