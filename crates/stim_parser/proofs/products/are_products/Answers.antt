use Rattle.std.proofs.Common.{◌&&◌, length, take, drop, ap, sym, ◌∙◌, ◌-◌}
use Rattle.stim_parser.specs.Limits.{are_products}
use Rattle.stim_parser.specs.Products.{are_factors}
use Rattle.stim_parser.proofs.ProductSteps.{cut_one}
use Rattle.stim_parser.proofs.ProductWords.{products-first}
use Rattle.stim_parser.proofs.products.are_products.Goals as goal

pub returns-then-is_factor : goal.returns-then-is_factor
returns-then-is_factor c =
    let targets = c.args.targets.now in
    let rest = take (length targets - 1) (drop 1 targets) in
    c.are_factors.ensures
    ∙ sym (ap are_products (cut_one targets c.first-item.result c.in-len1-up.len_at_least c.first-item.is)
    ∙ products-first c.first-item.result rest
    ∙ ap (λ b. b && are_factors rest) (sym c.is_factor.ensures ∙ c.if-is_factor.true))
