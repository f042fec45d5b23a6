-- The letters of the product, and whether it is inverted, are those of its slice of the targets.
use Rattle.std.proofs.Common.{◌-◌, arith, refl}
use Rattle.circuit_walk.proofs.TakenSteps.{products_at, taken_product}
use Rattle.circuit_walk.proofs.instruction_steps.InstructionSteps.product.Goals as goal

pub product_behind-behind-requires-clause-products : goal.product_behind-behind-requires-clause-products
product_behind-behind-requires-clause-products c = products_at c.args.self.now c.args.counts c.requires.facing c.requires.operation

pub returns : goal.returns
returns c =
    let s = c.args.self.now in
    let behind = c.product_behind-behind.result in
    taken_product s c.args.counts c.requires.facing c.requires.operation behind c.product_behind-behind.ensures.within c.product_behind-behind.ensures.place
    _ refl refl c.is_product_inverted.result c.is_product_inverted.ensures c.flip.result c.flip.ensures.number c.flip.ensures.next
    (behind - s.at) (omega (arith, c.product_behind-behind.ensures.later))
