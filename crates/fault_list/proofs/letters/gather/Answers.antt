-- Each term is multiplied into its letter.
use Rattle.std.proofs.Common.{◌+◌, ◌<◌, length, get_or, ap, ◌∙◌, arith}
use Rattle.pauli_word.specs.declared.letter.Letter.TheVariants.{I}
use Rattle.pauli_word.specs.Letters.{letter_product}
use Rattle.circuit_walk.specs.Letters.{letters_in}
use Rattle.fault_list.specs.private.TermLetters.{letter_in}
use Rattle.fault_list.proofs.TermLemmas.{letter_more}
use Rattle.fault_list.proofs.letters.gather.Goals as goal

pub loop-term-preserved : goal.loop-term-preserved
loop-term-preserved c =
    record {
      small = c.in-Some.ensures.small;
      so_far =
          λ k below.
          let q = c.args.from + k in
          let within : k < length c.loop-term.letters = omega (arith, below, c.multiply.auto.letters) in
          ap (λ a. letter_product a (letter_in (letters_in c.in-Some.rest) q)) (c.multiply.ensures k within)
          ∙ letter_more c.in-Some.term (letters_in c.in-Some.rest) (letters_in c.loop-term.left) q (get_or c.loop-term.letters k I) _ c.in-Some.ensures.letters (c.loop-term.invariant.so_far k within);
    }
