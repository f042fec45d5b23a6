use Rattle.stim_lexer.specs.Lexing.{cut_in}
use Rattle.stim_parser.proofs.JudgeLemmas.{too_many}
use Rattle.stim_parser.proofs.judge.closed_arguments_of.Goals as goal

pub returns-in_default-clause-refusal : goal.returns-in_default-clause-refusal
returns-in_default-clause-refusal c = too_many c.args.causes c.args.form (cut_in c.args.line) c.in_default.ensures
