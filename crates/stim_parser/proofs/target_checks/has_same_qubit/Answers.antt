use Rattle.std.proofs.Common.{ap, sym, ◌∙◌}
use Rattle.stim_parser.specs.Limits.{has_same_qubit}
use Rattle.stim_parser.proofs.ProductWords.{twice}
use Rattle.stim_parser.proofs.target_checks.has_same_qubit.Goals as goal

pub returns-in-Products : goal.returns-in-Products
unfolding has_same_qubit
returns-in-Products c =
    c.has_product_of_one.ensures ∙ sym (ap (λ form. has_same_qubit form c.args.targets.now) c.in-Products.is ∙ twice c.args.targets.now)
