-- The letters that were gathered make the factors of the terms.
use Rattle.std.proofs.Common.{ap, ◌∙◌, arith}
use Rattle.std.specs.Prelude.{◌&&◌}
use Rattle.circuit_walk.specs.Letters.{letters_in}
use Rattle.fault_list.specs.private.FactorTexts.{is_none, term_factors}
use Rattle.fault_list.proofs.SpanLemmas.{gathered_factors}
use Rattle.fault_list.proofs.word.write_span.Goals as goal

pub returns-clause-first : goal.returns-clause-first
returns-clause-first g c =
    let all = gathered_factors (letters_in c.args.terms) c.args.from c.gather.new.letters (λ k below. c.gather.ensures k (omega (arith, below, c.gather.auto.letters))) in
    c.write_letters.ensures.first
    ∙ (ap (λ fs. c.args.first && is_none fs) all
    ∙ ap (λ n. c.args.first && is_none (term_factors (letters_in c.args.terms) c.args.from n)) c.gather.auto.letters)

pub returns-clause-pushed : goal.returns-clause-pushed
returns-clause-pushed g c =
    let all = gathered_factors (letters_in c.args.terms) c.args.from c.gather.new.letters (λ k below. c.gather.ensures k (omega (arith, below, c.gather.auto.letters))) in
    rw (all ∙ ap (term_factors (letters_in c.args.terms) c.args.from) c.gather.auto.letters) at c.write_letters.ensures.pushed
