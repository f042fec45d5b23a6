use Rattle.std.proofs.Common.{length}
use Rattle.gate_table.specs.Images.{inverse_of}
use Rattle.gate_table.specs.WordImages.{preimage_at}
use Rattle.gate_table.proofs.GateGroups.{image_at_keeps}
use Rattle.tableau.specs.Rows.{state_of}
use Rattle.tableau.proofs.EncodingGates.{one_encodes}
use Rattle.tableau.proofs.KeptRows.{Keeps, inside, moves}
use Rattle.tableau.proofs.tableau.Tableau.apply_one.Given.{Over}
use Rattle.tableau.proofs.tableau.Tableau.apply_one.Goals as goal
use Rattle.tableau.proofs.tableau.Tableau.apply_one.Goals.{After-apply_one}

pub apply_one-requires-clause-inside : goal.apply_one-requires-clause-inside
apply_one-requires-clause-inside g c = inside c.self.inside.rows.items c.args.self.now c.self.invariant.0 c.self.view_is c.args.qubit c.requires.inside

-- what the new rows owe
keeps : (g : Over) (c : After-apply_one g) → Keeps (length c.self.inside.rows.items) c.args.self.now c.apply_one.new.rows.items (λ p. state_of c.args.self.now (preimage_at c.args.gate c.args.qubit p))
keeps g c =
    let rows = c.self.inside.rows.items in
    let is = c.self.invariant.0 in
    let here = inside rows c.args.self.now is c.self.view_is c.args.qubit c.requires.inside in
    moves rows c.args.self.now is c.self.view_is c.apply_one.new.rows.items _ (preimage_at c.args.gate c.args.qubit)
    (image_at_keeps (length rows) (inverse_of c.args.gate) c.args.qubit here).size (one_encodes (length rows) rows is c.args.gate c.args.qubit here) c.apply_one.ensures

pub invariant_of-self : goal.invariant_of-self
invariant_of-self g c =
    let kept = keeps g (goal.at.invariant_of-self g c).After-apply_one in
    (kept.tableau, kept.long _ c.self.invariant.1, kept.long _ c.self.invariant.2)

pub returns-clause-len : goal.returns-clause-len
returns-clause-len g c = (keeps g (goal.at.returns-clause-len g c).After-apply_one).len

pub returns-clause-state : goal.returns-clause-state
returns-clause-state g c = (keeps g (goal.at.returns-clause-state g c).After-apply_one).state_is
