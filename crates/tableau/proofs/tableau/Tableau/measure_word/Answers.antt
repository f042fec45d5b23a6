use Rattle.std.proofs.Common.{length, sym, ◌∙◌}
use Rattle.pauli_word.specs.States.{collapsed}
use Rattle.tableau.specs.Rows.{state_of}
use Rattle.tableau.proofs.KeptRows.{Keeps, kept_size, outcome_owed, measures}
use Rattle.tableau.proofs.tableau.Tableau.measure_word.Given.{Over}
use Rattle.tableau.proofs.tableau.Tableau.measure_word.Goals as goal
use Rattle.tableau.proofs.tableau.Tableau.measure_word.Goals.{After-measure_code}

pub encode-requires-clause-word : goal.encode-requires-clause-word
encode-requires-clause-word g c = c.requires ∙ sym (kept_size c.self.inside.rows.items c.args.self.now c.self.invariant.0 c.self.view_is)

pub measure_code-requires-clause-word : goal.measure_code-requires-clause-word
measure_code-requires-clause-word g c = c.requires ∙ sym (kept_size c.self.inside.rows.items c.args.self.now c.self.invariant.0 c.self.view_is)

-- what the measurement owes
owed : (g : Over) (c : After-measure_code g) → Keeps (length c.self.inside.rows.items) c.args.self.now c.measure_code.new.rows.items (collapsed c.args.word.now.letters c.args.coin (state_of c.args.self.now))
owed g c =
    measures c.self.inside.rows.items c.args.self.now c.self.invariant.0 c.self.view_is c.args.word.now.letters c.args.coin c.requires c.encode.new.code.0 c.encode.ensures.of_word
    c.measure_code.new.rows.items c.measure_code.ensures.rows

pub invariant_of-self : goal.invariant_of-self
invariant_of-self g c =
    let kept = owed g (goal.at.invariant_of-self g c).After-measure_code in
    (kept.tableau, kept.long _ c.measure_code.ensures.code, kept.long _ c.self.invariant.2)

pub returns-clause-len : goal.returns-clause-len
returns-clause-len g c = (owed g (goal.at.returns-clause-len g c).After-measure_code).len

pub returns-clause-outcome : goal.returns-clause-outcome
returns-clause-outcome g c =
    outcome_owed c.self.inside.rows.items c.args.self.now c.self.invariant.0 c.self.view_is c.args.word.now.letters c.args.coin c.requires c.encode.new.code.0 c.encode.ensures.of_word
    c.measure_code.result c.measure_code.ensures.outcome

pub returns-clause-state : goal.returns-clause-state
returns-clause-state g c = (owed g (goal.at.returns-clause-state g c).After-measure_code).state_is
