-- The letter's code is made, and collapsed.
use Rattle.std.proofs.Common.{length}
use Rattle.pauli_word.specs.Words.{lone_letter}
use Rattle.pauli_word.proofs.LoneLetters.{length-lone_letter}
use Rattle.tableau.specs.Rows.{row_count}
use Rattle.tableau.proofs.KeptRows.{Collapses, inside, lone_coded, collapses}
use Rattle.tableau.proofs.tableau.Tableau.collapse.Given.{Over}
use Rattle.tableau.proofs.tableau.Tableau.collapse.Goals as goal
use Rattle.tableau.proofs.tableau.Tableau.collapse.Goals.{After-collapse_code}

pub encode_letter-requires-clause-inside : goal.encode_letter-requires-clause-inside
encode_letter-requires-clause-inside g c = inside c.self.inside.rows.items c.args.self.now c.self.invariant.0 c.self.view_is c.args.qubit c.requires

-- what the collapse owes
owed : (g : Over) (c : After-collapse_code g) → Collapses (length c.self.inside.rows.items) c.args.self.now c.collapse_code.new.rows.items (lone_letter (row_count c.args.self.now) c.args.qubit c.args.letter) c.args.coin c.collapse_code.result.0 c.collapse_code.result.1
owed g c =
    let rows = c.self.inside.rows.items in
    let old = c.args.self.now in
    let is = c.self.invariant.0 in
    collapses rows old is c.self.view_is (lone_letter (row_count old) c.args.qubit c.args.letter) c.args.coin (length-lone_letter (row_count old) c.args.qubit c.args.letter)
    c.encode_letter.new.code.0 (lone_coded rows old is c.self.view_is c.args.qubit c.args.letter _ _ c.encode_letter.ensures.letter c.encode_letter.ensures.of_word)
    c.collapse_code.new.rows.items c.collapse_code.ensures.rows c.collapse_code.result.0 c.collapse_code.ensures.outcome c.collapse_code.result.1 c.collapse_code.ensures.row

pub invariant_of-self : goal.invariant_of-self
invariant_of-self g c =
    let kept = (owed g (goal.at.invariant_of-self g c).After-collapse_code).keeps in
    (kept.tableau, kept.long _ c.collapse_code.ensures.code, kept.long _ c.encode_letter.ensures.word)

pub returns : goal.returns
returns g c = (owed g (goal.at.returns g c).After-collapse_code).owed
