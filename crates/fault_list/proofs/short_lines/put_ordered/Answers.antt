-- Their factors are the word.
use Rattle.std.proofs.Common.{◌≡◌, ◌+◌, ◌≤◌, true, [], ◌∷◌, ◌++◌, take, sym, ap, ◌∙◌, append_assoc, append-nil, arith}
use Rattle.std.specs.Prelude.{codes, not}
use Rattle.step_model.specs.Listing.{is_I}
use Rattle.fault_list.specs.FaultLines.{factor_text}
use Rattle.fault_list.specs.private.TermLetters.{is_ordered}
use Rattle.fault_list.proofs.ShortLineLemmas.{ordered_next, ordered_text}
use Rattle.fault_list.proofs.short_lines.put_ordered.Goals as goal

pub returns : goal.returns
returns c = λ qubits fit.
    let first = c.args.first in
    let second = c.args.second in
    let before = take c.args.at c.args.buffer.now in
    let starred = codes "*" ++ factor_text second.qubit second.letter in
    let acts : not (is_I first.letter) ≡ true = sym c.acts.ensures ∙ c.if-not-acts.false in
    let acts_too : not (is_I second.letter) ≡ true = sym c.acts-else-not-acts.ensures ∙ c.if-not-acts-2.false in
    let after : first.qubit + 1 ≤ second.qubit = omega (arith, c.if-second-first.false) in
    let ordered : is_ordered 0 (first ∷ second ∷ []) ≡ true = ordered_next first (second ∷ []) 0 (omega arith) acts ∙ ordered_next second [] (first.qubit + 1) after acts_too in
    let text = ordered_text qubits (first ∷ second ∷ []) (omega arith) fit ordered in
    record {
      within = omega (arith, c.put_factor-end.ensures.within, c.put_starred.ensures.within, c.requires);
      written =
          c.put_starred.ensures.written
          ∙ (ap (λ l. l ++ starred) c.put_factor-end.ensures.written
          ∙ (append_assoc before (factor_text first.qubit first.letter) starred
          ∙ ap (λ l. before ++ l) (ap (λ l. factor_text first.qubit first.letter ++ l) (sym (append-nil starred)) ∙ sym text)));
      kept = λ none. cc;
    }
