-- What is kept of items, and what is handed out of them. The targets of all items are kept in one list of lists, which are
-- empty where an item isn't an instruction.
use Rattle.std.specs.Prelude.{ℕ, List, [], ◌∷◌}
use Rattle.stim_lexer.specs.declared.items.Instruction as instruction
use Rattle.stim_lexer.specs.declared.items.Item as handed
use Rattle.stim_lexer.specs.declared.items.Item.TheVariants as item
use Rattle.stim_lexer.specs.declared.items.Node.{Node}
use Rattle.stim_lexer.specs.declared.items.Node.TheVariants as node
use Rattle.stim_lexer.specs.Arguments.{arguments_in}
use Rattle.stim_lexer.specs.Instructions.{Instruction}
use Rattle.stim_lexer.specs.Trees.{Item, InstructionLine, BlockStart, BlockEnd}

-- an item, from its targets and what is kept of it beside them
abbrev pub item_kept : {O T : Type 0} → List T → Node O → Item (Instruction O T)
item_kept targets (node.InstructionLine operation mark line arguments) =
    InstructionLine (record { line = line; operation = operation; arguments = arguments_in arguments.now; targets = targets })
item_kept targets (node.BlockStart line turns) = BlockStart line turns
item_kept targets node.BlockEnd = BlockEnd

abbrev pub items_kept : {O T : Type 0} → List (List T) → List (Node O) → List (Item (Instruction O T))
items_kept (targets ∷ lists) (n ∷ nodes) = item_kept targets n ∷ items_kept lists nodes
items_kept lists nodes = []

-- the mark of an instruction
abbrev pub mark_kept : {O : Type 0} → Node O → ℕ
mark_kept (node.InstructionLine operation mark line arguments) = mark
mark_kept n = 0

-- ---- what is handed out

abbrev pub instruction_in : {O T : Type 0} → instruction.Instruction O T → Instruction O T
instruction_in i =
    record {
      line = i.line;
      operation = i.operation;
      arguments = arguments_in i.arguments.now;
      targets = i.targets.now;
    }

abbrev pub item_in : {O T : Type 0} → handed.Item O T → Item (Instruction O T)
item_in (item.InstructionLine i) = InstructionLine (instruction_in i)
item_in (item.BlockStart line turns) = BlockStart line turns
item_in item.BlockEnd = BlockEnd

abbrev pub mark_in : {O T : Type 0} → handed.Item O T → ℕ
mark_in (item.InstructionLine i) = i.mark
mark_in item = 0
