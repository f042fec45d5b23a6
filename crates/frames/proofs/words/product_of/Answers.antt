-- Each letter goes from the word that is left into the word so far.
use Rattle.std.proofs.Common.{◌<◌, length, ap, sym, subst, ◌∙◌}
use Rattle.std.proofs.lemmas.List.{length-replicate}
use Rattle.circuit_walk.specs.Letters.{letters_in}
use Rattle.pauli_word.specs.declared.letter.Letter.TheVariants.{I}
use Rattle.pauli_word.specs.Words.{Signed, letters_product, lone_letter}
use Rattle.pauli_word.proofs.LoneLetters.{length-lone_letter}
use Rattle.pauli_word.proofs.WordLaws.{length-letters_product}
use Rattle.step_model.specs.Listing.{word_of_terms}
use Rattle.forward_sim.proofs.TermWords.{fewer, first_fits, rest_fits}
use Rattle.frames.proofs.TermWords.{IsProductSoFar, product_all, product_none, product_on}
use Rattle.frames.proofs.words.product_of.Goals as goal

pub loop-term-init : goal.loop-term-init
loop-term-init g c =
    let n = c.args.qubits in
    let terms = letters_in c.args.letters in
    record {
      small = c.requires.small;
      fit = c.requires.inside;
      size = ap (λ (w : Signed). length w.letters) c.in_ok-word.ensures ∙ length-replicate n I;
      product = ap (λ (w : Signed). letters_product w.letters (word_of_terms n terms)) c.in_ok-word.ensures ∙ product_none n terms;
    }

pub multiply_at-requires : goal.multiply_at-requires
multiply_at-requires g c =
    subst (λ n. c.in-Some.term.qubit < n) (sym c.loop-term.invariant.size)
    (first_fits c.args.qubits (letters_in c.loop-term.left) c.in-Some.term (letters_in c.in-Some.rest) c.in-Some.ensures.letters c.loop-term.invariant.fit)

pub loop-term-smaller : goal.loop-term-smaller
loop-term-smaller g c =
    fewer c.args.qubits (letters_in c.loop-term.left) c.in-Some.term (letters_in c.in-Some.rest) c.in-Some.ensures.letters

pub loop-term-preserved : goal.loop-term-preserved
loop-term-preserved g c =
    let n = c.args.qubits in
    let terms = letters_in c.args.letters in
    let term = c.in-Some.term in
    let left = letters_in c.loop-term.left in
    let rest = letters_in c.in-Some.rest in
    let word = c.loop-term.word.letters in
    let after = c.multiply_at.new.word in
    let size = c.loop-term.invariant.size in
    let letters = ap (λ (w : Signed). w.letters) c.multiply_at.ensures ∙ ap (λ m. letters_product (lone_letter m term.qubit term.letter) word) size in
    record {
      small = c.in-Some.ensures.small;
      fit = rest_fits n left term rest c.in-Some.ensures.letters c.loop-term.invariant.fit;
      size =
          ap length letters
          ∙ (length-letters_product (lone_letter n term.qubit term.letter) word (length-lone_letter n term.qubit term.letter ∙ sym size)
          ∙ length-lone_letter n term.qubit term.letter);
      product =
          subst (IsProductSoFar n rest terms) (sym letters)
          (product_on n term rest terms word
          (subst (λ ts. IsProductSoFar n ts terms word) c.in-Some.ensures.letters c.loop-term.invariant.product));
    }

pub returns-clause-product : goal.returns-clause-product
returns-clause-product g c =
    let n = c.args.qubits in
    let terms = letters_in c.args.letters in
    let word = c.loop-term.word.letters in
    product_all n terms word c.loop-term.invariant.size
    (subst (λ ts. IsProductSoFar n ts terms word) c.in_default.ensures.letters c.loop-term.invariant.product)

pub returns-clause-size : goal.returns-clause-size
returns-clause-size g c = c.loop-term.invariant.size
