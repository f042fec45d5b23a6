use Rattle.std.proofs.Common.{false, sym, subst}
use Rattle.tableau.specs.Products.{AreWithin, word_of_factors}
use Rattle.tableau.specs.Rows.{row_count}
use Rattle.tableau.proofs.KeptRows.{kept_size, named}
use Rattle.tableau.proofs.ProductCodes.{length-word_of_factors, product_coded}
use Rattle.tableau.proofs.tableau.Tableau.random_row_of_product.Goals as goal

pub encode_product-requires-clause-within : goal.encode_product-requires-clause-within
encode_product-requires-clause-within g c =
    subst (λ n. AreWithin n (g.F.Factors.factors c.args.factors)) (sym (kept_size c.self.inside.rows.items c.args.self.now c.self.invariant.0 c.self.view_is)) c.requires

pub returns-clause-row : goal.returns-clause-row
returns-clause-row g c =
    let rows = c.self.inside.rows.items in
    let old = c.args.self.now in
    let factors = g.F.Factors.factors c.args.factors in
    named rows old c.self.invariant.0 c.self.view_is (word_of_factors (row_count old) factors) false (length-word_of_factors (row_count old) factors) c.encode_product.new.code.0
    (product_coded rows old c.self.invariant.0 c.self.view_is factors c.encode_product.new.code.0 c.encode_product.ensures.of_product)
    c.lowest_x_or_y.result c.lowest_x_or_y.ensures
