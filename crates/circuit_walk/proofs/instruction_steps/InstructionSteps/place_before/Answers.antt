-- Before the targets that a gate has in a step, or before the product that ends at the place.
use Rattle.std.proofs.Common.{◌∙◌, arith}
use Rattle.circuit_walk.proofs.ProductPlaces.{places_within}
use Rattle.circuit_walk.proofs.StandLemmas.{fit_own, gate_before, own_place, products_of_form}
use Rattle.circuit_walk.proofs.instruction_steps.InstructionSteps.place_before.Goals as goal

pub overflow_sub-result : goal.overflow_sub-result
overflow_sub-result c =
    let st = c.requires.stands in
    let place = own_place st.0 c.args.self.now _ c.args.self.now.at st.1 st.2 (c.requires.operation ∙ c.in-Applies.is) st.3 in
    omega (arith, c.arity.ensures, gate_before c.in-Applies.gate c.args.self.now.at st.1 place.0 c.requires.there)

pub product_before-requires-clause-products : goal.product_before-requires-clause-products
product_before-requires-clause-products c =
    products_of_form c.args.self.now.targets.now (fit_own c.requires.stands.0 c.args.self.now _ c.requires.stands.2 (c.requires.operation ∙ c.in-ProductMeasurement.is)).form

pub product_before-requires-clause-within : goal.product_before-requires-clause-within
product_before-requires-clause-within c =
    let st = c.requires.stands in
    let place = own_place st.0 c.args.self.now _ c.args.self.now.at st.1 st.2 (c.requires.operation ∙ c.in-ProductMeasurement.is) st.3 in
    omega (arith, place.0, places_within c.args.self.now.targets.now st.1)
