-- The factors that would be measured make the word of the letters.
use Rattle.std.proofs.Common.{ap, sym, subst}
use Rattle.circuit_walk.specs.Letters.{letters_in}
use Rattle.tableau.specs.Products.{AreWithin, word_of_factors}
use Rattle.tableau.specs.Rows.{row_count, NamesRandom}
use Rattle.forward_sim.specs.private.ProductFactors.{factors_of}
use Rattle.forward_sim.proofs.TermWords.{factors_within, factors_word}
use Rattle.forward_sim.proofs.products.product_row.Goals as goal

pub random_row_of_product-requires : goal.random_row_of_product-requires
random_row_of_product-requires g c =
    let terms = letters_in c.args.letters in
    subst (λ n. AreWithin n (factors_of terms)) (sym (ap (λ r. row_count r.rows) c.machine.view_is)) (factors_within (row_count c.args.machine.now.rows) terms c.requires.fit)

pub returns-clause-row : goal.returns-clause-row
returns-clause-row g c =
    let terms = letters_in c.args.letters in
    let row = c.random_row_of_product.result in
    let old = c.args.machine.now.rows in
    subst (λ w. NamesRandom old w row) (factors_word (row_count old) terms)
    (subst (λ rows. NamesRandom rows (word_of_factors (row_count rows) (factors_of terms)) row) (ap (λ r. r.rows) c.machine.view_is) c.random_row_of_product.ensures.row)
