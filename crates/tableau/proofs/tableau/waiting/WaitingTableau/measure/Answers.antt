-- Where no turn waits, an outcome that is seen at once is answered.
use Rattle.std.proofs.Common.{◌≡◌, ap, sym, ◌∙◌}
use Rattle.tableau.specs.Rows.{row_count}
use Rattle.tableau.proofs.WaitingLaws.{none_awaited}
use Rattle.tableau.proofs.WaitingSteps.{outcome_carried, state_carried}
use Rattle.tableau.proofs.tableau.waiting.WaitingTableau.measure.Given.{Over}
use Rattle.tableau.proofs.tableau.waiting.WaitingTableau.measure.Goals as goal
use Rattle.tableau.proofs.tableau.waiting.WaitingTableau.measure.Goals.{In-Some}

-- the rows as they are, where none waits
here : (g : Over) (c : In-Some g) → c.self.inside.tableau ≡ c.args.self.now.rows
here g c = sym (none_awaited c.self.inside.tableau c.self.inside.turns.items c.self.inside.waiting c.in-Some.ensures.none) ∙ ap (λ t. t.rows) c.self.view_is

pub returns-in-Some-clause-outcome : goal.returns-in-Some-clause-outcome
returns-in-Some-clause-outcome g c =
    let at = here g (goal.at.returns-in-Some-clause-outcome g c).In-Some in
    outcome_carried (row_count c.self.inside.tableau) (row_count c.args.self.now.rows) c.args.qubit c.args.letter c.args.coin c.in-Some.outcome c.self.inside.tableau c.args.self.now.rows
    (ap row_count at) at (c.in-Some.ensures.stays c.args.coin).outcome_is

pub returns-in-Some-clause-state : goal.returns-in-Some-clause-state
returns-in-Some-clause-state g c =
    let at = here g (goal.at.returns-in-Some-clause-state g c).In-Some in
    state_carried (row_count c.self.inside.tableau) (row_count c.args.self.now.rows) c.args.qubit c.args.letter c.args.coin c.self.inside.tableau c.args.self.now.rows c.self.inside.tableau c.args.self.now.rows
    (ap row_count at) at (sym at) (c.in-Some.ensures.stays c.args.coin).state_is
