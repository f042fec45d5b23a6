-- Where the code has only I and Z its sign is the outcome, and the rows stay; otherwise the product is made, and measured.
use Rattle.std.proofs.Common.{length, ap, sym, subst, ◌∙◌}
use Rattle.pauli_word.specs.States.{collapsed}
use Rattle.pauli_word.specs.Words.{with_sign_changed}
use Rattle.tableau.specs.Products.{AreWithin, word_of_factors}
use Rattle.tableau.specs.Rows.{row_count, state_of}
use Rattle.tableau.specs.private.EncodingSteps.{measured_at, outcome_at}
use Rattle.tableau.proofs.KeptRows.{Keeps, kept_size, outcome_owed, measures}
use Rattle.tableau.proofs.ProductCodes.{length-word_of_factors, product_coded}
use Rattle.tableau.proofs.tableau.Tableau.measure_product.Given.{Over}
use Rattle.tableau.proofs.tableau.Tableau.measure_product.Goals as goal
use Rattle.tableau.proofs.tableau.Tableau.measure_product.Goals.{After-measure_code}

pub encode_product-requires-clause-within : goal.encode_product-requires-clause-within
encode_product-requires-clause-within g c =
    subst (λ n. AreWithin n (g.F.Factors.factors c.args.factors)) (sym (kept_size c.self.inside.rows.items c.args.self.now c.self.invariant.0 c.self.view_is)) c.requires

pub set_product-requires : goal.set_product-requires
set_product-requires g c =
    subst (λ n. AreWithin n (g.F.Factors.factors c.args.factors)) (sym (c.encode_product.ensures.word.x ∙ kept_size c.self.inside.rows.items c.args.self.now c.self.invariant.0 c.self.view_is)) c.requires

pub returns-in-Some-clause-outcome : goal.returns-in-Some-clause-outcome
returns-in-Some-clause-outcome g c =
    let rows = c.self.inside.rows.items in
    let old = c.args.self.now in
    let factors = g.F.Factors.factors c.args.factors in
    let code = c.encode_product.new.code.0 in
    outcome_owed rows old c.self.invariant.0 c.self.view_is (word_of_factors (row_count old) factors) c.args.coin (length-word_of_factors (row_count old) factors)
    code (product_coded rows old c.self.invariant.0 c.self.view_is factors code c.encode_product.ensures.of_product) c.in-Some.outcome
    (c.in-Some.ensures.sign ∙ sym (ap (λ o. outcome_at o code c.args.coin) c.in-Some.ensures.lowest))

pub returns-in-Some-clause-state : goal.returns-in-Some-clause-state
returns-in-Some-clause-state g c =
    let rows = c.self.inside.rows.items in
    let old = c.args.self.now in
    let factors = g.F.Factors.factors c.args.factors in
    let code = c.encode_product.new.code.0 in
    (measures rows old c.self.invariant.0 c.self.view_is (word_of_factors (row_count old) factors) c.args.coin (length-word_of_factors (row_count old) factors)
    code (product_coded rows old c.self.invariant.0 c.self.view_is factors code c.encode_product.ensures.of_product) rows
    (sym (ap (λ o. measured_at (length rows) o (with_sign_changed c.args.coin code) rows) c.in-Some.ensures.lowest))).state_is

-- what the measurement owes
owed : (g : Over) (c : After-measure_code g) → Keeps (length c.self.inside.rows.items) c.args.self.now c.measure_code.new.rows.items
    (collapsed (word_of_factors (row_count c.args.self.now) (g.F.Factors.factors c.args.factors)) c.args.coin (state_of c.args.self.now))
owed g c =
    let rows = c.self.inside.rows.items in
    let old = c.args.self.now in
    let factors = g.F.Factors.factors c.args.factors in
    measures rows old c.self.invariant.0 c.self.view_is (word_of_factors (row_count old) factors) c.args.coin (length-word_of_factors (row_count old) factors)
    c.encode_product.new.code.0 (product_coded rows old c.self.invariant.0 c.self.view_is factors c.encode_product.new.code.0 c.encode_product.ensures.of_product)
    c.measure_code.new.rows.items c.measure_code.ensures.rows

pub invariant_of-self-2 : goal.invariant_of-self-2
invariant_of-self-2 g c =
    let kept = owed g c in
    (kept.tableau, kept.long _ c.measure_code.ensures.code, kept.long _ (record { x = c.set_product.ensures.len ∙ c.encode_product.ensures.word.x; z = c.encode_product.ensures.word.z }))

pub returns-clause-len : goal.returns-clause-len
returns-clause-len g c = (owed g c).len

pub returns-clause-outcome : goal.returns-clause-outcome
returns-clause-outcome g c =
    let rows = c.self.inside.rows.items in
    let old = c.args.self.now in
    let factors = g.F.Factors.factors c.args.factors in
    outcome_owed rows old c.self.invariant.0 c.self.view_is (word_of_factors (row_count old) factors) c.args.coin (length-word_of_factors (row_count old) factors)
    c.encode_product.new.code.0 (product_coded rows old c.self.invariant.0 c.self.view_is factors c.encode_product.new.code.0 c.encode_product.ensures.of_product)
    c.measure_code.result c.measure_code.ensures.outcome

pub returns-clause-state : goal.returns-clause-state
returns-clause-state g c = (owed g c).state_is
