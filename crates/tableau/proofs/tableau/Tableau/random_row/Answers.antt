-- A sign that is seen is the outcome; otherwise the letter's code is made, which says whether it is random.
use Rattle.std.proofs.Common.{◌<◌, false, length, refl, sym, subst}
use Rattle.pauli_word.specs.Words.{lone_letter}
use Rattle.pauli_word.proofs.LoneLetters.{length-lone_letter}
use Rattle.tableau.specs.Rows.{row_count}
use Rattle.tableau.proofs.KeptRows.{inside, lone_coded, named}
use Rattle.tableau.proofs.SeenOutcomes.{seen}
use Rattle.tableau.proofs.tableau.Tableau.random_row.Goals as goal

pub index-requires : goal.index-requires
index-requires g c = subst (λ m. c.args.qubit < m) (sym c.self.inside.rows.ok.0) (inside c.self.inside.rows.items c.args.self.now c.self.invariant.0 c.self.view_is c.args.qubit c.requires)

pub returns-in-Some-clause-row : goal.returns-in-Some-clause-row
returns-in-Some-clause-row g c =
    (seen c.self.inside.rows.items c.args.self.now c.self.invariant.0 c.self.view_is c.args.qubit (inside c.self.inside.rows.items c.args.self.now c.self.invariant.0 c.self.view_is c.args.qubit c.requires)
    c.index.result.now c.index.ensures c.args.letter false c.in-Some.field-0 (c.in-Some.ensures (length c.self.inside.rows.items))).owed.named

pub set_code-requires-clause-inside : goal.set_code-requires-clause-inside
set_code-requires-clause-inside g c = inside c.self.inside.rows.items c.args.self.now c.self.invariant.0 c.self.view_is c.args.qubit c.requires

pub returns-clause-row : goal.returns-clause-row
returns-clause-row g c =
    let rows = c.self.inside.rows.items in
    let old = c.args.self.now in
    let is = c.self.invariant.0 in
    named rows old is c.self.view_is (lone_letter (row_count old) c.args.qubit c.args.letter) false (length-lone_letter (row_count old) c.args.qubit c.args.letter)
    c.set_code.new.code.0 (lone_coded rows old is c.self.view_is c.args.qubit c.args.letter _ _ refl c.set_code.ensures.of_letter)
    c.lowest_x_or_y.result c.lowest_x_or_y.ensures
