-- The targets of a measurement of products are products.
use Rattle.std.proofs.Common.{◌≡◌, true, subst}
use Rattle.stim_parser.specs.declared.operation.Operation.{Operation}
use Rattle.stim_parser.specs.declared.table.Keyword.TheVariants.{Does}
use Rattle.stim_parser.specs.Instructions.{target_form}
use Rattle.stim_parser.specs.Limits.{are_of_form}
use Rattle.circuit_walk.proofs.StandLemmas.{products_of_form}
use Rattle.circuit_walk.proofs.declarations.record_count.Goals as goal

pub product_count-requires : goal.product_count-requires
product_count-requires c =
    let ts = c.args.instruction.targets.now in
    products_of_form ts (subst (λ (o : Operation). are_of_form (target_form (Does o)) ts ≡ true) c.in-ProductMeasurement.is c.requires.targets)
