use Rattle.std.proofs.Common.{true, length, sym, ◌∙◌}
use Rattle.pauli_word.specs.States.{applied}
use Rattle.tableau.specs.Rows.{state_of}
use Rattle.tableau.proofs.EncodingGates.{word_map, word_encodes}
use Rattle.tableau.proofs.KeptRows.{Keeps, kept_size, moves}
use Rattle.tableau.proofs.tableau.Tableau.apply_word.Given.{Over}
use Rattle.tableau.proofs.tableau.Tableau.apply_word.Goals as goal
use Rattle.tableau.proofs.tableau.Tableau.apply_word.Goals.{After-apply_letters}

pub apply_letters-requires : goal.apply_letters-requires
apply_letters-requires g c = c.requires ∙ sym (kept_size c.self.inside.rows.items c.args.self.now c.self.invariant.0 c.self.view_is)

-- what the new rows owe
keeps : (g : Over) (c : After-apply_letters g) → Keeps (length c.self.inside.rows.items) c.args.self.now c.apply_letters.new.rows.items (applied true c.args.word.now.letters (state_of c.args.self.now))
keeps g c =
    let rows = c.self.inside.rows.items in
    let is = c.self.invariant.0 in
    let w = c.args.word.now.letters in
    moves rows c.args.self.now is c.self.view_is c.apply_letters.new.rows.items _ (word_map w) (λ p h. h)
    (word_encodes (length rows) rows is w (c.requires ∙ sym (kept_size rows c.args.self.now is c.self.view_is))) c.apply_letters.ensures

pub invariant_of-self : goal.invariant_of-self
invariant_of-self g c =
    let kept = keeps g (goal.at.invariant_of-self g c).After-apply_letters in
    (kept.tableau, kept.long _ c.self.invariant.1, kept.long _ c.self.invariant.2)

pub returns-clause-len : goal.returns-clause-len
returns-clause-len g c = (keeps g (goal.at.returns-clause-len g c).After-apply_letters).len

pub returns-clause-state : goal.returns-clause-state
returns-clause-state g c = (keeps g (goal.at.returns-clause-state g c).After-apply_letters).state_is
