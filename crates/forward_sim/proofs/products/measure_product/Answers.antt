-- The factors that are measured make the word of the letters.
use Rattle.std.proofs.Common.{ap, ap₂, sym, subst, ◌∙◌}
use Rattle.circuit_walk.specs.Letters.{letters_in}
use Rattle.pauli_word.specs.States.{collapsed, outcome}
use Rattle.tableau.specs.Products.{AreWithin, word_of_factors}
use Rattle.tableau.specs.Rows.{row_count, state_of}
use Rattle.forward_sim.specs.private.ProductFactors.{factors_of}
use Rattle.forward_sim.proofs.TermWords.{factors_within, factors_word}
use Rattle.forward_sim.proofs.products.measure_product.Goals as goal

pub measure_product-requires : goal.measure_product-requires
measure_product-requires g c =
    let terms = letters_in c.args.letters in
    let rows = ap (λ r. row_count r.rows) (c.machine.view_is ∙ c.take_coin-coin.ensures.taken) in
    subst (λ n. AreWithin n (factors_of terms)) (sym rows) (factors_within (row_count c.args.machine.now.rows) terms c.requires.fit)

pub returns-clause-outcome : goal.returns-clause-outcome
returns-clause-outcome g c =
    let terms = letters_in c.args.letters in
    let old = c.args.machine.now in
    c.measure_product.ensures.outcome
    ∙ ap (λ rows. outcome (state_of rows) (word_of_factors (row_count rows) (factors_of terms)) c.take_coin-coin.result) (ap (λ r. r.rows) (c.machine.view_is ∙ c.take_coin-coin.ensures.taken))
    ∙ ap₂ (outcome (state_of old.rows)) (factors_word (row_count old.rows) terms) c.take_coin-coin.ensures.coin

pub returns-clause-run : goal.returns-clause-run
returns-clause-run g c =
    let terms = letters_in c.args.letters in
    let old = c.args.machine.now in
    let seen = c.machine.view_is ∙ c.take_coin-coin.ensures.taken in
    let qubits = c.measure_product.ensures.len ∙ ap (λ r. row_count r.rows) seen in
    record {
      qubits = qubits;
      room = ap (λ r. r.room) seen;
      run = record {
        state = λ p size.
            c.measure_product.ensures.state p (size ∙ sym qubits)
            ∙ ap (λ rows. collapsed (word_of_factors (row_count rows) (factors_of terms)) c.take_coin-coin.result (state_of rows) p) (ap (λ r. r.rows) seen)
            ∙ ap₂ (λ w coin. collapsed w coin (state_of old.rows) p) (factors_word (row_count old.rows) terms) c.take_coin-coin.ensures.coin;
        coins = ap (λ r. r.coins) seen;
        records = ap (λ r. r.records) seen;
      };
    }
