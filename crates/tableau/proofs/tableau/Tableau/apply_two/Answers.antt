use Rattle.std.proofs.Common.{length}
use Rattle.gate_table.specs.Images.{inverse_of}
use Rattle.gate_table.specs.WordImages.{preimage_at_two}
use Rattle.gate_table.proofs.GateGroups.{image_at_two_keeps}
use Rattle.tableau.specs.Rows.{state_of}
use Rattle.tableau.proofs.EncodingGates.{two_encodes}
use Rattle.tableau.proofs.KeptRows.{Keeps, inside, moves}
use Rattle.tableau.proofs.tableau.Tableau.apply_two.Given.{Over}
use Rattle.tableau.proofs.tableau.Tableau.apply_two.Goals as goal
use Rattle.tableau.proofs.tableau.Tableau.apply_two.Goals.{After-apply_two}

pub apply_two-requires-clause-first_inside : goal.apply_two-requires-clause-first_inside
apply_two-requires-clause-first_inside g c = inside c.self.inside.rows.items c.args.self.now c.self.invariant.0 c.self.view_is c.args.a c.requires.first_inside

pub apply_two-requires-clause-second_inside : goal.apply_two-requires-clause-second_inside
apply_two-requires-clause-second_inside g c = inside c.self.inside.rows.items c.args.self.now c.self.invariant.0 c.self.view_is c.args.b c.requires.second_inside

-- what the new rows owe
keeps : (g : Over) (c : After-apply_two g) → Keeps (length c.self.inside.rows.items) c.args.self.now c.apply_two.new.rows.items (λ p. state_of c.args.self.now (preimage_at_two c.args.gate c.args.a c.args.b p))
keeps g c =
    let rows = c.self.inside.rows.items in
    let is = c.self.invariant.0 in
    let first = inside rows c.args.self.now is c.self.view_is c.args.a c.requires.first_inside in
    let second = inside rows c.args.self.now is c.self.view_is c.args.b c.requires.second_inside in
    moves rows c.args.self.now is c.self.view_is c.apply_two.new.rows.items _ (preimage_at_two c.args.gate c.args.a c.args.b)
    (image_at_two_keeps (length rows) (inverse_of c.args.gate) c.args.a c.args.b first second c.requires.differ).size
    (two_encodes (length rows) rows is c.args.gate c.args.a c.args.b first second c.requires.differ) c.apply_two.ensures.rows

pub invariant_of-self : goal.invariant_of-self
invariant_of-self g c =
    let kept = keeps g (goal.at.invariant_of-self g c).After-apply_two in
    (kept.tableau, kept.long _ c.apply_two.ensures.first, kept.long _ c.apply_two.ensures.second)

pub returns-clause-len : goal.returns-clause-len
returns-clause-len g c = (keeps g (goal.at.returns-clause-len g c).After-apply_two).len

pub returns-clause-state : goal.returns-clause-state
returns-clause-state g c = (keeps g (goal.at.returns-clause-state g c).After-apply_two).state_is
