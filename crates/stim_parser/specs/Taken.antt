-- An instruction with arguments and targets as its operation takes them, by the table of its format: what the questions that
-- are asked of every format's lines leave. (This project's own.)
use Rattle.std.specs.Prelude.{◌≡◌, false, true}
use Rattle.stim_lexer.specs.Instructions.{Instruction}
use Rattle.stim_parser.specs.declared.table.Keyword.TheVariants.{Does}
use Rattle.stim_parser.specs.Judging.{Table}
use Rattle.stim_parser.specs.Limits.{has_wrong_arguments, has_wrong_probability, has_argument_beyond}

pub record IsAsTaken {O T F : Type 0} (table : Table O T F) (i : Instruction O T) : Type 0 where
  pub arguments : has_wrong_arguments (table.argument_form (Does i.operation)) i.arguments ≡ false
  pub probability : has_wrong_probability (table.argument_form (Does i.operation)) i.arguments ≡ false
  pub arguments_within : has_argument_beyond table.greatest_coordinate (table.argument_form (Does i.operation)) i.arguments ≡ false
  pub targets : table.are_of_form (table.target_form (Does i.operation)) i.targets ≡ true
  pub targets_within : table.has_target_beyond (table.target_form (Does i.operation)) i.targets ≡ false
