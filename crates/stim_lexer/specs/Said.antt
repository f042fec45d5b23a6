-- What the judge of a format hands out of a cut line. The targets of an instruction are handed out apart from the rest,
-- and its arguments are still the text in its parentheses.
use Rattle.std.specs.Prelude.{⊤, ℕ, ◌<◌, List}
use Rattle.stim_lexer.specs.declared.said.Said.{Said}
use Rattle.stim_lexer.specs.declared.said.Said.TheVariants as said
use Rattle.stim_lexer.specs.Arguments.{arguments_in}
use Rattle.stim_lexer.specs.Instructions.{Instruction}
use Rattle.stim_lexer.specs.Texts.{Reading, Accepts, Opens, Closes, Refuses}

-- what the line of this number says, with the targets that were read from it
abbrev pub reading_in : {O T : Type 0} → ℕ → Said O → List T → Reading (Instruction O T)
reading_in line (said.Accepts operation arguments) targets =
    Accepts
    (record {
      line = line;
      operation = operation;
      arguments = arguments_in arguments.now;
      targets = targets;
    })
reading_in line (said.Opens turns) targets = Opens turns
reading_in line said.Closes targets = Closes
reading_in line (said.Refuses c) targets = Refuses c

-- where a block is opened, one more may be open
abbrev pub OpensFew : {O : Type 0} → ℕ → Said O → Type 0
OpensFew depth (said.Opens turns) = depth < 32
OpensFew depth said = ⊤
