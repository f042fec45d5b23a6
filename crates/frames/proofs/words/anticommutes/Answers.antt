-- Each letter goes from those that are left into the parity.
use Rattle.std.proofs.Common.{◌<◌, length, ap, refl, sym, ◌∙◌}
use Rattle.circuit_walk.specs.Letters.{letters_in}
use Rattle.pauli_word.specs.Letters.{letters_clash}
use Rattle.pauli_word.specs.Parity.{exclusive_or}
use Rattle.pauli_word.specs.Words.{anticommute}
use Rattle.pauli_word.proofs.Parities.{exclusive_or-false}
use Rattle.run_laws.proofs.ShiftWords.{anticommute-none}
use Rattle.step_model.specs.Listing.{word_of_terms}
use Rattle.forward_sim.proofs.TermWords.{fewer, first_fits, rest_fits}
use Rattle.frames.proofs.TermWords.{anticommute-term, turned}
use Rattle.frames.proofs.words.anticommutes.Goals as goal

pub loop-term-init : goal.loop-term-init
loop-term-init g c = record { small = c.requires.small; fit = c.requires.inside; met = refl }

pub letter-requires : goal.letter-requires
letter-requires g c =
    first_fits (length c.args.word.now.letters) (letters_in c.loop-term.left) c.in-Some.term (letters_in c.in-Some.rest) c.in-Some.ensures.letters c.loop-term.invariant.fit

pub loop-term-smaller : goal.loop-term-smaller
loop-term-smaller g c =
    fewer (length c.args.word.now.letters) (letters_in c.loop-term.left) c.in-Some.term (letters_in c.in-Some.rest) c.in-Some.ensures.letters

pub loop-term-preserved : goal.loop-term-preserved
loop-term-preserved g c =
    let w = c.args.word.now.letters in
    let n = length w in
    let left = letters_in c.loop-term.left in
    let rest = letters_in c.in-Some.rest in
    let term = c.in-Some.term in
    let cut = c.in-Some.ensures.letters in
    let fits : term.qubit < n = first_fits n left term rest cut c.loop-term.invariant.fit in
    let behind = anticommute w (word_of_terms n rest) in
    let clash = c.clashes-odd.ensures ∙ ap (λ a. letters_clash a term.letter) c.letter.ensures in
    record {
      small = c.in-Some.ensures.small;
      fit = rest_fits n left term rest cut c.loop-term.invariant.fit;
      met =
          turned c.loop-term.odd c.clashes-odd.result behind
          ∙ (ap (exclusive_or c.loop-term.odd)
          (ap (λ b. exclusive_or b behind) clash
          ∙ (sym (anticommute-term n w term rest refl fits) ∙ ap (λ ts. anticommute w (word_of_terms n ts)) (sym cut)))
          ∙ c.loop-term.invariant.met);
    }

pub returns : goal.returns
returns g c =
    let w = c.args.word.now.letters in
    let n = length w in
    sym (exclusive_or-false c.loop-term.odd)
    ∙ (ap (exclusive_or c.loop-term.odd)
    (sym (ap (λ ts. anticommute w (word_of_terms n ts)) c.in_default.ensures.letters ∙ anticommute-none w n))
    ∙ c.loop-term.invariant.met)
