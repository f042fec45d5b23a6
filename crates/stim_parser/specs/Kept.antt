-- What is handed out of a circuit that was read.
use Rattle.stim_lexer.specs.declared.items.Instruction as instruction
use Rattle.stim_lexer.specs.declared.items.Item as handed
use Rattle.stim_lexer.specs.Instructions.{Instruction}
use Rattle.stim_lexer.specs.Kept as kept
use Rattle.stim_lexer.specs.Trees.{Item}
use Rattle.stim_parser.specs.declared.operation.Operation.{Operation}
use Rattle.stim_parser.specs.declared.target.Target.{Target}

-- an instruction, and an item
abbrev pub instruction_in : instruction.Instruction Operation Target → Instruction Operation Target
instruction_in i = kept.instruction_in i

abbrev pub item_in : handed.Item Operation Target → Item (Instruction Operation Target)
item_in i = kept.item_in i
