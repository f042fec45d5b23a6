use Rattle.std.proofs.Common.{◌∙◌, ap, sym, not, true, false}
use Rattle.stim_parser.proofs.CheckLemmas.{wrong_probability}
use Rattle.stim_parser.proofs.argument_checks.has_wrong_probability.Goals as goal

pub returns-then-takes_probability : goal.returns-then-takes_probability
returns-then-takes_probability c =
    ap not c.are_probabilities.ensures
    ∙ sym (wrong_probability c.args.form c.args.arguments.now true (sym c.takes_probability.ensures ∙ c.if-takes_probability.true))

pub returns-else-takes_probability : goal.returns-else-takes_probability
returns-else-takes_probability c =
    c.if-takes_probability.false
    ∙ sym (wrong_probability c.args.form c.args.arguments.now false (sym c.takes_probability.ensures ∙ c.if-takes_probability.false))
