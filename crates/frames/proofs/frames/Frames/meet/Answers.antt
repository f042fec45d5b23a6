-- Each letter goes from those that are left into the parity.
use Rattle.std.proofs.Common.{◌<◌, length, ap, sym, ◌∙◌}
use Rattle.bit_rows.specs.Lanes.{lane_bit}
use Rattle.bit_rows.proofs.LaneLaws.{lane_bit-zero}
use Rattle.circuit_walk.specs.Letters.{letters_in}
use Rattle.pauli_word.specs.Letters.{letters_clash}
use Rattle.pauli_word.specs.Parity.{exclusive_or}
use Rattle.pauli_word.specs.Words.{anticommute, letter_at}
use Rattle.pauli_word.proofs.Parities.{exclusive_or_assoc, exclusive_or-false}
use Rattle.run_laws.proofs.ShiftWords.{anticommute-none}
use Rattle.step_model.specs.Listing.{word_of_terms}
use Rattle.forward_sim.proofs.TermWords.{fewer, first_fits, rest_fits}
use Rattle.frames.specs.LaneLetters.{word_in}
use Rattle.frames.proofs.LaneFrameLaws.{anticommute-first, length-word_in}
use Rattle.frames.proofs.frames.Frames.meet.Goals as goal

pub loop-term-init : goal.loop-term-init
loop-term-init g c =
    let letters = c.args.self.now.letters in
    record {
      small = c.requires.small;
      fit = c.requires.inside;
      met = λ j. ap (λ b. exclusive_or b (anticommute (word_in j letters) (word_of_terms (length letters) (letters_in c.args.letters)))) (lane_bit-zero j);
    }

pub at-requires : goal.at-requires
at-requires g c =
    first_fits (length c.args.self.now.letters) (letters_in c.loop-term.left) c.in-Some.term (letters_in c.in-Some.rest) c.in-Some.ensures.letters c.loop-term.invariant.fit

pub loop-term-smaller : goal.loop-term-smaller
loop-term-smaller g c =
    fewer (length c.args.self.now.letters) (letters_in c.loop-term.left) c.in-Some.term (letters_in c.in-Some.rest) c.in-Some.ensures.letters

pub loop-term-preserved : goal.loop-term-preserved
loop-term-preserved g c =
    let letters = c.args.self.now.letters in
    let n = length letters in
    let left = letters_in c.loop-term.left in
    let rest = letters_in c.in-Some.rest in
    let term = c.in-Some.term in
    let cut = c.in-Some.ensures.letters in
    let fits : term.qubit < n = first_fits n left term rest cut c.loop-term.invariant.fit in
    record {
      small = c.in-Some.ensures.small;
      fit = rest_fits n left term rest cut c.loop-term.invariant.fit;
      met = λ j.
          let w = word_in j letters in
          let odd = lane_bit j c.loop-term.odd in
          let behind = anticommute w (word_of_terms n rest) in
          ap (λ b. exclusive_or b behind)
          (c.xor-odd.ensures j ∙ ap (exclusive_or odd) (c.clashes.ensures j ∙ ap (λ a. letters_clash a term.letter) (c.at.ensures j)))
          ∙ exclusive_or_assoc odd (letters_clash (letter_at w term.qubit) term.letter) behind
          ∙ ap (exclusive_or odd)
          (sym (anticommute-first n w term rest (length-word_in j letters) fits) ∙ ap (λ ts. anticommute w (word_of_terms n ts)) (sym cut))
          ∙ c.loop-term.invariant.met j;
    }

pub returns : goal.returns
returns g c j =
    let letters = c.args.self.now.letters in
    let n = length letters in
    let w = word_in j letters in
    let odd = lane_bit j c.loop-term.odd in
    sym (exclusive_or-false odd)
    ∙ ap (exclusive_or odd)
    (sym (ap (λ ts. anticommute w (word_of_terms n ts)) c.in_default.ensures.letters ∙ anticommute-none w n))
    ∙ c.loop-term.invariant.met j
