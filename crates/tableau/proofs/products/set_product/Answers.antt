-- Each factor goes from the product that is left into the word so far.
use Rattle.std.proofs.Common.{◌≡◌, ◌<◌, length, set, ap, ap₂, sym, ◌∙◌, length-set, subst}
use Rattle.std.proofs.lemmas.List.{length-replicate}
use Rattle.pauli_word.specs.declared.letter.Letter.TheVariants.{I}
use Rattle.pauli_word.specs.Letters.{letter_product}
use Rattle.pauli_word.specs.Words.{signed, letter_at, letters_product}
use Rattle.tableau.specs.Products.{word_of_factors}
use Rattle.tableau.proofs.FirstFactors.{Factor}
use Rattle.tableau.proofs.ProductCodes.{IsProductSoFar, fewer, first_within, rest_within, product_none, product_more, product_all}
use Rattle.tableau.proofs.products.set_product.Given.{Over}
use Rattle.tableau.proofs.products.set_product.Goals as goal
use Rattle.tableau.proofs.products.set_product.Goals.{In-Some}

inside : (g : Over) (c : In-Some g) → c.in-Some.qubit < length c.args.word.now.letters
inside g c =
    first_within (length c.args.word.now.letters) (g.F.Factors.factors c.loop-qubit.left) (c.in-Some.qubit, c.in-Some.letter) _ c.in-Some.ensures c.loop-qubit.invariant.within

pub letter-requires : goal.letter-requires
letter-requires g c =
    subst (λ n. c.in-Some.qubit < n) (sym c.loop-qubit.invariant.size) (inside g (goal.at.letter-requires g c).In-Some)

pub set_letter-requires : goal.set_letter-requires
set_letter-requires g c =
    subst (λ n. c.in-Some.qubit < n) (sym c.loop-qubit.invariant.size) (inside g (goal.at.set_letter-requires g c).In-Some)

pub loop-qubit-init : goal.loop-qubit-init
loop-qubit-init g c =
    let n = length c.args.word.now.letters in
    let all = g.F.Factors.factors c.args.factors in
    record {
      within = c.requires;
      size = ap (λ w. length w.letters) c.clear.ensures ∙ length-replicate n I;
      plus = ap (λ w. w.negative) c.clear.ensures;
      product = ap (λ w. letters_product w.letters (word_of_factors n all)) c.clear.ensures ∙ product_none n all;
    }

pub loop-qubit-smaller : goal.loop-qubit-smaller
loop-qubit-smaller g c =
    fewer (length c.args.word.now.letters) (g.F.Factors.factors c.loop-qubit.left) (c.in-Some.qubit, c.in-Some.letter) _ c.in-Some.ensures

pub loop-qubit-preserved : goal.loop-qubit-preserved
loop-qubit-preserved g c =
    let n = length c.args.word.now.letters in
    let all = g.F.Factors.factors c.args.factors in
    let factor : Factor = (c.in-Some.qubit, c.in-Some.letter) in
    let before = c.loop-qubit.word.letters in
    let letters : c.set_letter.new.self.letters ≡ set before c.in-Some.qubit (letter_product c.in-Some.letter (letter_at before c.in-Some.qubit)) =
    ap (λ w. w.letters) c.set_letter.ensures
    ∙ ap (set before c.in-Some.qubit) (c.times.ensures ∙ ap (letter_product c.in-Some.letter) c.letter.ensures) in
    record {
      within = rest_within n (g.F.Factors.factors c.loop-qubit.left) factor _ c.in-Some.ensures c.loop-qubit.invariant.within;
      size = ap length letters ∙ length-set before c.in-Some.qubit _ ∙ c.loop-qubit.invariant.size;
      plus = ap (λ w. w.negative) c.set_letter.ensures ∙ c.loop-qubit.invariant.plus;
      product =
          subst (IsProductSoFar n _ all) (sym letters)
          (product_more n factor _ all before c.loop-qubit.invariant.size (inside g (goal.at.loop-qubit-preserved g c).In-Some)
          (subst (λ left. IsProductSoFar n left all before) c.in-Some.ensures c.loop-qubit.invariant.product));
    }

pub returns-clause-word : goal.returns-clause-word
returns-clause-word g c =
    let n = length c.args.word.now.letters in
    let all = g.F.Factors.factors c.args.factors in
    let word = c.loop-qubit.word.letters in
    ap₂ signed
    (product_all n all word c.loop-qubit.invariant.size (subst (λ left. IsProductSoFar n left all word) c.in_default.ensures c.loop-qubit.invariant.product))
    c.loop-qubit.invariant.plus
