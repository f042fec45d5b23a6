-- The factors go out span by span.
use Rattle.std.proofs.Common.{◌≡◌, ◌++◌, true, length, take, sym, ap, ap₂, ◌∙◌, rules}
use Rattle.std.specs.Prelude.{◌&&◌}
use Rattle.step_model.proofs.Pushing.{Pushes-trans, Pushes-nil}
use Rattle.step_model.specs.Listing.{word_of_terms}
use Rattle.circuit_walk.specs.Letters.{letters_in}
use Rattle.fault_list.specs.private.FactorTexts.{is_none, joined, joined_on, term_factors}
use Rattle.fault_list.proofs.FactorLemmas.{factors_below}
use Rattle.fault_list.proofs.FactorTextLemmas.{joined_on-append, none-append, product_text-some, product_text-none}
use Rattle.fault_list.proofs.SpanLemmas.{none_before, span_more, all_below}
use Rattle.fault_list.proofs.word.write_word.Goals as goal

pub loop-from-init : goal.loop-from-init
loop-from-init g c =
    let e = c.lowest_from-from.ensures in
    let none = none_before c.args.qubits (letters_in c.args.terms) c.lowest_from-from.result c.requires.terms e.within e.lowest in
    record {
      within = e.within;
      first = sym (ap is_none none);
      pushed = rw none Pushes-nil;
    }

pub loop-from-preserved : goal.loop-from-preserved
loop-from-preserved g c =
    let n = c.args.qubits in
    let terms = letters_in c.args.terms in
    let q = c.loop-from.from in
    let span = c.span_of-span.result in
    let next = c.lowest_from-from-in-loop-from.result in
    let e = c.lowest_from-from-in-loop-from.ensures in
    let fs = factors_below (word_of_terms n terms) q in
    let gs = term_factors terms q span in
    let more = sym (span_more n terms q span next c.requires.terms e.from e.within e.lowest) in
    let room : length (take span c.loop-from.letters) ≡ span = search rules in
    let w = c.write_span-first.ensures in
    let text : joined fs ++ joined_on c.loop-from.first (term_factors terms q (length (take span c.loop-from.letters))) ≡ joined (factors_below (word_of_terms n terms) next) =
    ap₂ (λ b k. joined fs ++ joined_on b (term_factors terms q k)) c.loop-from.invariant.first room
    ∙ (joined_on-append true fs gs ∙ ap joined more) in
    record {
      within = e.within;
      first =
          w.first
          ∙ (ap₂ (λ b k. b && is_none (term_factors terms q k)) c.loop-from.invariant.first room
          ∙ (none-append true fs gs ∙ ap is_none more));
      pushed = rw text at (Pushes-trans c.loop-from.invariant.pushed w.pushed);
    }

pub returns-then-first : goal.returns-then-first
returns-then-first g c =
    let all = all_below c.args.qubits (letters_in c.args.terms) c.loop-from.from c.loop-from.invariant.within c.loop-from-test.false in
    let fs = factors_below (word_of_terms c.args.qubits (letters_in c.args.terms)) c.loop-from.from in
    let text = product_text-none fs (sym c.loop-from.invariant.first ∙ c.if-first.true) in
    rw (← all, ← text) (Pushes-trans c.loop-from.invariant.pushed c.push.ensures)

pub returns-else-first : goal.returns-else-first
returns-else-first g c =
    let all = all_below c.args.qubits (letters_in c.args.terms) c.loop-from.from c.loop-from.invariant.within c.loop-from-test.false in
    let fs = factors_below (word_of_terms c.args.qubits (letters_in c.args.terms)) c.loop-from.from in
    let text = product_text-some fs (sym c.loop-from.invariant.first ∙ c.if-first.false) in
    rw (← all, ← text) c.loop-from.invariant.pushed
