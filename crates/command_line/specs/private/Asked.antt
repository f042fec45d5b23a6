-- What comes of words that ask for help.
-- (This project's own.)
use Rattle.std.specs.Prelude.{⊤}
use Rattle.command_line.specs.declared.asked.Asked.{Asked}
use Rattle.command_line.specs.declared.asked.Asked.TheVariants.{Order, Help, Usage, NoMemory}

-- it is help, or there was no memory for that
abbrev pub IsHelpOrNoMemory : Asked → Type 0
IsHelpOrNoMemory (Help text) = ⊤
IsHelpOrNoMemory NoMemory = ⊤
IsHelpOrNoMemory (Order order) = ⊥
IsHelpOrNoMemory Usage = ⊥
