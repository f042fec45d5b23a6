-- Each letter is put behind those before it.
use Rattle.std.proofs.Common.{◌≡◌, ◌+◌, ◌≤◌, true, ◌∷◌, ◌++◌, length, take, sym, ap, subst, ◌∙◌, append_assoc, append-nil, arith}
use Rattle.std.specs.Prelude.{codes, not}
use Rattle.step_model.specs.Listing.{is_I, word_of_terms}
use Rattle.step_model.specs.WellFormed.{TermsFit}
use Rattle.circuit_walk.specs.Letters.{letters_in}
use Rattle.fault_list.specs.FaultLines.{factor_text, word_text}
use Rattle.fault_list.specs.private.TermLetters.{is_ordered, starred_factors}
use Rattle.fault_list.proofs.PutLemmas.{before_kept, ends_after, kept_before}
use Rattle.fault_list.proofs.ShortLineLemmas.{ordered_next, ordered_text}
use Rattle.fault_list.proofs.kept_word.put_letters.Goals as goal

pub loop-term-init : goal.loop-term-init
loop-term-init c =
    let old = c.args.buffer.now in
    let new = c.put_factor-end.new.buffer in
    let end = c.put_factor-end.result in
    let first = c.in_ok-first.first in
    let more = letters_in c.in_ok-first.more in
    let text = factor_text first.qubit first.letter in
    let parts : letters_in c.args.terms ≡ first ∷ more = c.in_ok-first.ensures.letters in
    let acts : not (is_I first.letter) ≡ true = sym c.acts.ensures ∙ c.if-not-acts.false in
    let inside : c.args.at ≤ length old = omega (arith, c.requires.room) in
    let written = c.put_factor-end.ensures.written in
    let after = ends_after c.args.at end new old text inside written in
    record {
      small = c.in_ok-first.ensures.small;
      after = after;
      within = omega (arith, c.put_factor-end.ensures.within);
      kept = before_kept c.args.at end new old text after inside written;
      ordered = sym (ap (is_ordered 0) parts ∙ ordered_next first more 0 (omega arith) acts);
      written = λ qubits fit ordered.
          ap (λ l. l ++ starred_factors more) written
          ∙ (append_assoc (take c.args.at old) text (starred_factors more)
          ∙ ap (λ l. take c.args.at old ++ l)
          (sym (ap (λ terms. word_text (word_of_terms qubits terms)) parts ∙ ordered_text qubits (first ∷ more) (omega arith) (subst (TermsFit qubits) parts fit) (sym (ap (is_ordered 0) parts) ∙ ordered))));
    }

pub loop-term-preserved : goal.loop-term-preserved
loop-term-preserved c =
    let old = c.loop-term.buffer in
    let new = c.put_starred-end.new.buffer in
    let from = c.loop-term.end in
    let end = c.put_starred-end.result in
    let term = c.in-Some.term in
    let rest = letters_in c.in-Some.rest in
    let text = codes "*" ++ factor_text term.qubit term.letter in
    let parts = c.in-Some.ensures.letters in
    let inside : from ≤ length old = omega (arith, c.loop-term.invariant.within, c.requires.room, c.loop-term.auto.buffer) in
    let written = c.put_starred-end.ensures.written in
    let after = ends_after from end new old text inside written in
    let same = before_kept from end new old text after inside written in
    let acts : not (is_I term.letter) ≡ true = sym c.acts-else-term-last.ensures ∙ c.if-not-acts-2.false in
    record {
      small = c.in-Some.ensures.small;
      after = omega (arith, c.loop-term.invariant.after, after);
      within = omega (arith, c.put_starred-end.ensures.within);
      kept = kept_before c.args.at from new old c.loop-term.invariant.after same ∙ c.loop-term.invariant.kept;
      ordered =
          sym (ap (is_ordered (c.loop-term.last + 1)) parts ∙ ordered_next term rest (c.loop-term.last + 1) (omega (arith, c.if-term-last.false)) acts)
          ∙ c.loop-term.invariant.ordered;
      written = λ qubits fit ordered.
          ap (λ l. l ++ starred_factors rest) written
          ∙ (append_assoc (take from old) text (starred_factors rest)
          ∙ (ap (λ terms. take from old ++ starred_factors terms) (sym parts)
          ∙ c.loop-term.invariant.written qubits fit ordered));
    }

pub returns-clause-put : goal.returns-clause-put
returns-clause-put c = λ qubits fit.
    let before = take c.loop-term.end c.loop-term.buffer in
    let none = c.in_default.ensures.letters in
    let ordered : is_ordered 0 (letters_in c.args.terms) ≡ true = sym c.loop-term.invariant.ordered ∙ ap (is_ordered (c.loop-term.last + 1)) none in
    record {
      within = omega (arith, c.loop-term.invariant.within);
      written = sym (append-nil before) ∙ (ap (λ terms. before ++ starred_factors terms) (sym none) ∙ c.loop-term.invariant.written qubits fit ordered);
      kept = λ none. cc;
    }
