-- Its factor is the word.
use Rattle.std.proofs.Common.{◌≡◌, true, [], ◌∷◌, ◌++◌, take, sym, ap, ◌∙◌, append-nil, arith}
use Rattle.std.specs.Prelude.{not}
use Rattle.step_model.specs.Listing.{is_I}
use Rattle.fault_list.specs.FaultLines.{factor_text}
use Rattle.fault_list.specs.private.TermLetters.{is_ordered}
use Rattle.fault_list.proofs.ShortLineLemmas.{ordered_next, ordered_text}
use Rattle.fault_list.proofs.short_lines.put_lone.Goals as goal

pub returns : goal.returns
returns c = λ qubits fit.
    let term = c.args.term in
    let acts : not (is_I term.letter) ≡ true = sym c.acts.ensures ∙ c.if-not-acts.false in
    let ordered : is_ordered 0 (term ∷ []) ≡ true = ordered_next term [] 0 (omega arith) acts in
    let text = ordered_text qubits (term ∷ []) (omega arith) fit ordered in
    record {
      within = omega (arith, c.put_factor.ensures.within, c.requires);
      written = c.put_factor.ensures.written ∙ ap (λ l. take c.args.at c.args.buffer.now ++ l) (sym (append-nil (factor_text term.qubit term.letter)) ∙ sym text);
      kept = λ none. cc;
    }
