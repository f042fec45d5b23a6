use Rattle.std.proofs.Common.{◌∙◌, sym}
use Rattle.std.proofs.lemmas.List.{nil_from_length}
use Rattle.std.proofs.lemmas.Bool.{eqb-true}
use Rattle.stim_lexer.specs.Lexing.{cut_in}
use Rattle.stim_parser.proofs.JudgeLemmas.{no_arguments, right_probabilities, whole_numbers}
use Rattle.stim_parser.proofs.judge.arguments_of.Goals as goal

pub returns-then-recall-clause-refusal : goal.returns-then-recall-clause-refusal
returns-then-recall-clause-refusal c =
    right_probabilities c.args.causes c.args.greatest c.args.form (cut_in c.args.line) c.if-line.false (c.recall.ensures.right c.if-recall.true)

pub returns-then-is_empty-clause-refusal : goal.returns-then-is_empty-clause-refusal
returns-then-is_empty-clause-refusal c =
    no_arguments c.args.causes c.args.greatest c.args.form (cut_in c.args.line) (c.takes_no_arguments.ensures c.if-takes_no_arguments.true) c.if-line.false
    (nil_from_length c.args.line.arguments.now (eqb-true _ _ (sym c.is_empty.ensures ∙ c.if-is_empty.true)))

pub returns-in-Some-clause-refusal : goal.returns-in-Some-clause-refusal
returns-in-Some-clause-refusal c =
    whole_numbers c.args.causes c.args.greatest c.args.form (cut_in c.args.line) c.in-Some.beyond c.in-WholeNumbers.is c.if-line.false c.in-Some.ensures
