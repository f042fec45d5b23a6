use Rattle.std.proofs.Common.{◌∙◌, ap, sym, not}
use Rattle.stim_parser.proofs.CheckLemmas.{right_count, wrong_count}
use Rattle.stim_parser.proofs.argument_checks.has_wrong_arguments.Goals as goal

pub returns-then-is_wrong_count : goal.returns-then-is_wrong_count
returns-then-is_wrong_count c =
    c.if-is_wrong_count.true ∙ sym (wrong_count c.args.form c.args.arguments.now (sym c.is_wrong_count.ensures ∙ c.if-is_wrong_count.true))

pub returns-else-is_wrong_count : goal.returns-else-is_wrong_count
returns-else-is_wrong_count c =
    ap not c.are_arguments.ensures ∙ sym (right_count c.args.form c.args.arguments.now (sym c.is_wrong_count.ensures ∙ c.if-is_wrong_count.false))
