-- What is known of a line, however often it is reached.
use Rattle.std.specs.Prelude.{◌≡◌, ⊤, ℕ, ℤ, List, nat_abs}
use Rattle.stim_lexer.specs.Reached.{greatest_by}
use Rattle.stim_parser.specs.Arguments.{arguments_in}
use Rattle.dem_text.specs.declared.brief.Brief.{Brief}
use Rattle.dem_text.specs.declared.kept.KeptLine.{KeptLine}
use Rattle.dem_text.specs.declared.operation.Operation.{Operation}
use Rattle.dem_text.specs.declared.operation.Operation.TheVariants.{Shifts}
use Rattle.dem_text.specs.declared.target.Target.{Target}
use Rattle.dem_text.specs.Verdicts.{Instruction, number_in}
use Rattle.dem_text.specs.private.Tables.{IsKnown}

-- where an instruction shifts detectors, it does so by this amount
abbrev pub IsAmount : Operation → ℕ → List Target → Type 0
IsAmount Shifts amount targets = amount ≡ number_in targets
IsAmount operation amount targets = ⊤

-- this is known of an instruction, and these are the numbers that it states
pub record IsBrief (i : Instruction) (brief : Brief) (stated : List ℤ) : Type 0 where
  pub line_is : brief.line ≡ i.line
  pub operation_is : brief.operation ≡ i.operation
  pub known : IsKnown i brief.extent stated
  pub amount_is : IsAmount i.operation brief.amount i.targets
  pub reach_is : brief.reach ≡ greatest_by nat_abs stated

-- of some instruction
pub record IsSomeBrief (brief : Brief) (stated : List ℤ) : Type 0 where
  pub instruction : Instruction
  pub brief_is : IsBrief instruction brief stated

-- an instruction as it is handed out
pub record IsKeptLine (i : Instruction) (line : KeptLine) : Type 0 where
  pub brief_is : IsBrief i line.brief line.stated.now
  pub targets_are : line.targets.now ≡ i.targets
  pub arguments_are : arguments_in line.arguments.now ≡ i.arguments

-- some instruction is handed out so
pub record IsSomeLine (line : KeptLine) : Type 0 where
  pub instruction : Instruction
  pub line_is : IsKeptLine instruction line
