-- A sign that is seen is the outcome; otherwise the letter's code is made, and measured.
use Rattle.std.proofs.Common.{◌≡◌, ◌<◌, length, None, refl, sym, subst}
use Rattle.pauli_word.specs.States.{collapsed}
use Rattle.pauli_word.specs.Words.{lone_letter}
use Rattle.pauli_word.proofs.LoneLetters.{length-lone_letter}
use Rattle.tableau.specs.private.EncodingSteps.{code_of}
use Rattle.tableau.specs.Rows.{row_count, state_of, IsCollapsed}
use Rattle.tableau.proofs.KeptRows.{Keeps, inside, lone_coded, outcome_owed, measures}
use Rattle.tableau.proofs.SeenOutcomes.{seen}
use Rattle.tableau.proofs.tableau.Tableau.measure.Given.{Over}
use Rattle.tableau.proofs.tableau.Tableau.measure.Goals as goal
use Rattle.tableau.proofs.tableau.Tableau.measure.Goals.{After-measure_letter, In-Some}

pub index-requires : goal.index-requires
index-requires g c = subst (λ m. c.args.qubit < m) (sym c.self.inside.rows.ok.0) (inside c.self.inside.rows.items c.args.self.now c.self.invariant.0 c.self.view_is c.args.qubit c.requires)

-- what is owed where its sign is seen, and the rows stay
seen_owed : (g : Over) (c : In-Some g) → IsCollapsed c.args.self.now c.args.self.now (lone_letter (row_count c.args.self.now) c.args.qubit c.args.letter) c.args.coin c.in-Some.outcome None
seen_owed g c =
    subst (λ rows. IsCollapsed c.args.self.now rows (lone_letter (row_count c.args.self.now) c.args.qubit c.args.letter) c.args.coin c.in-Some.outcome None) c.self.view_is
    (seen c.self.inside.rows.items c.args.self.now c.self.invariant.0 c.self.view_is c.args.qubit (inside c.self.inside.rows.items c.args.self.now c.self.invariant.0 c.self.view_is c.args.qubit c.requires)
    c.index.result.now c.index.ensures c.args.letter c.args.coin c.in-Some.outcome (c.in-Some.ensures (length c.self.inside.rows.items))).owed

pub returns-in-Some-clause-outcome : goal.returns-in-Some-clause-outcome
returns-in-Some-clause-outcome g c = (seen_owed g (goal.at.returns-in-Some-clause-outcome g c).In-Some).outcome_is

pub returns-in-Some-clause-state : goal.returns-in-Some-clause-state
returns-in-Some-clause-state g c = (seen_owed g (goal.at.returns-in-Some-clause-state g c).In-Some).state_is

pub set_code-requires-clause-inside : goal.set_code-requires-clause-inside
set_code-requires-clause-inside g c = inside c.self.inside.rows.items c.args.self.now c.self.invariant.0 c.self.view_is c.args.qubit c.requires

pub measure_letter-requires-clause-inside : goal.measure_letter-requires-clause-inside
measure_letter-requires-clause-inside g c = inside c.self.inside.rows.items c.args.self.now c.self.invariant.0 c.self.view_is c.args.qubit c.requires

-- the letter's code
coded : (g : Over) (c : After-measure_letter g) → c.set_code.new.code.0 ≡ code_of (length c.self.inside.rows.items) c.self.inside.rows.items (lone_letter (row_count c.args.self.now) c.args.qubit c.args.letter)
coded g c = lone_coded c.self.inside.rows.items c.args.self.now c.self.invariant.0 c.self.view_is c.args.qubit c.args.letter _ _ refl c.set_code.ensures.of_letter

-- what the measurement owes
owed : (g : Over) (c : After-measure_letter g) → Keeps (length c.self.inside.rows.items) c.args.self.now c.measure_letter.new.rows.items (collapsed (lone_letter (row_count c.args.self.now) c.args.qubit c.args.letter) c.args.coin (state_of c.args.self.now))
owed g c =
    let old = c.args.self.now in
    measures c.self.inside.rows.items old c.self.invariant.0 c.self.view_is (lone_letter (row_count old) c.args.qubit c.args.letter) c.args.coin (length-lone_letter (row_count old) c.args.qubit c.args.letter)
    c.set_code.new.code.0 (coded g c) c.measure_letter.new.rows.items c.measure_letter.ensures.rows

pub invariant_of-self : goal.invariant_of-self
invariant_of-self g c =
    let kept = owed g (goal.at.invariant_of-self g c).After-measure_letter in
    (kept.tableau, kept.long _ c.measure_letter.ensures.code, kept.long _ c.self.invariant.2)

pub returns-clause-len : goal.returns-clause-len
returns-clause-len g c = (owed g (goal.at.returns-clause-len g c).After-measure_letter).len

pub returns-clause-outcome : goal.returns-clause-outcome
returns-clause-outcome g c =
    let old = c.args.self.now in
    outcome_owed c.self.inside.rows.items old c.self.invariant.0 c.self.view_is (lone_letter (row_count old) c.args.qubit c.args.letter) c.args.coin (length-lone_letter (row_count old) c.args.qubit c.args.letter)
    c.set_code.new.code.0 (coded g (goal.at.returns-clause-outcome g c).After-measure_letter) c.measure_letter.result c.measure_letter.ensures.outcome

pub returns-clause-state : goal.returns-clause-state
returns-clause-state g c = (owed g (goal.at.returns-clause-state g c).After-measure_letter).state_is
