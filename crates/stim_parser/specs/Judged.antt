-- What a circuit's text is judged to be: a text that writes a tree, or a text that is refused.
use Rattle.std.specs.Prelude.{ℕ, List}
use Rattle.step_model.specs.declared.fault.Fault.{Fault}
use Rattle.stim_lexer.specs.Judged as judged
use Rattle.stim_lexer.specs.Trees as trees
use Rattle.stim_parser.specs.Texts.{Item, circuits}
use Rattle.stim_parser.specs.Trees.{Tree}

-- the items that a tree says, in their order
abbrev pub items_of : Tree → List Item
items_of tree = trees.items_of tree

-- a text writes this tree; a text is refused by this fault
abbrev pub Writes : List ℕ → Tree → Type 0
Writes bytes tree = judged.Writes circuits bytes tree

abbrev pub IsRefusedBy : List ℕ → Fault → Type 0
IsRefusedBy bytes fault = judged.IsRefusedBy circuits bytes fault
