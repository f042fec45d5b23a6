-- The item at a place, and its mark, are those of the node there.
use Rattle.std.proofs.Common.{◌≡◌, List, [], get_or, Some, slice_get, sym, ap, ◌∙◌}
use Rattle.stim_lexer.specs.declared.items.Node.{Node}
use Rattle.stim_lexer.specs.declared.items.Node.TheVariants as node
use Rattle.stim_lexer.specs.Instructions.{Instruction}
use Rattle.stim_lexer.specs.Kept.{item_kept, mark_kept}
use Rattle.stim_lexer.specs.Marked.{Marked}
use Rattle.stim_lexer.proofs.FlatLemmas.{item_at, mark_at}
use Rattle.stim_lexer.proofs.items.Items.get.Given.{Over}
use Rattle.stim_lexer.proofs.items.Items.get.Goals as goal
use Rattle.stim_lexer.proofs.items.Items.get.Goals.{After-index}

item_is : (g : Over) (c : After-index g) (n : Node g.row.O.Denot) → c.index.result.now ≡ n → Some (item_kept (get_or c.self.inside.targets c.args.i []) n) ≡ slice_get c.args.self.now.items c.args.i
item_is g c n is =
    let inside = c.self.inside in
    sym
    (item_at inside.targets inside.nodes.items c.args.i c.index.result.now (ap (λ (m : Marked (Instruction g.row.O.Denot g.row.T.Denot)). m.items) c.self.view_is) c.self.invariant c.requires c.index.ensures
    ∙ ap (λ (m : Node g.row.O.Denot). Some (item_kept (get_or inside.targets c.args.i []) m)) is)

mark_is : (g : Over) (c : After-index g) (n : Node g.row.O.Denot) → c.index.result.now ≡ n → mark_kept n ≡ get_or c.args.self.now.marks c.args.i 0
mark_is g c n is =
    let inside = c.self.inside in
    let views = c.self.view_is in
    sym
    (mark_at inside.targets inside.nodes.items c.args.i c.index.result.now
    (ap (λ (m : Marked (Instruction g.row.O.Denot g.row.T.Denot)). m.items) views) (ap (λ (m : Marked (Instruction g.row.O.Denot g.row.T.Denot)). m.marks) views)
    c.self.invariant c.requires c.index.ensures
    ∙ ap (λ (m : Node g.row.O.Denot). mark_kept m) is)

pub returns-in-InstructionLine-clause-item : goal.returns-in-InstructionLine-clause-item
returns-in-InstructionLine-clause-item g c =
    let here = c.in-InstructionLine in
    ap (λ (targets : List g.row.T.Denot). Some (item_kept targets (node.InstructionLine here.operation here.mark here.line here.arguments))) c.get.ensures.value
    ∙ item_is g (goal.at.returns-in-InstructionLine-clause-item g c).After-index _ here.is

pub returns-in-BlockStart-clause-item : goal.returns-in-BlockStart-clause-item
returns-in-BlockStart-clause-item g c = item_is g (goal.at.returns-in-BlockStart-clause-item g c).After-index _ c.in-BlockStart.is

pub returns-in-BlockEnd-clause-item : goal.returns-in-BlockEnd-clause-item
returns-in-BlockEnd-clause-item g c = item_is g (goal.at.returns-in-BlockEnd-clause-item g c).After-index _ c.in-BlockEnd.is

pub returns-in-InstructionLine-clause-mark : goal.returns-in-InstructionLine-clause-mark
returns-in-InstructionLine-clause-mark g c = mark_is g (goal.at.returns-in-InstructionLine-clause-mark g c).After-index _ c.in-InstructionLine.is

pub returns-in-BlockStart-clause-mark : goal.returns-in-BlockStart-clause-mark
returns-in-BlockStart-clause-mark g c = mark_is g (goal.at.returns-in-BlockStart-clause-mark g c).After-index _ c.in-BlockStart.is

pub returns-in-BlockEnd-clause-mark : goal.returns-in-BlockEnd-clause-mark
returns-in-BlockEnd-clause-mark g c = mark_is g (goal.at.returns-in-BlockEnd-clause-mark g c).After-index _ c.in-BlockEnd.is
