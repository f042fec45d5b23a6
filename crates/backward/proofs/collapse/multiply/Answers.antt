use Rattle.std.proofs.Common.{◌<◌, ◌+◌, length, drop, get_or, ap, sym, ◌∙◌, arith}
use Rattle.std.proofs.lemmas.List.{drop_more}
use Rattle.pauli_word.specs.declared.letter.Letter.TheVariants.{I}
use Rattle.step_model.specs.declared.step.Term.{Term}
use Rattle.backward.specs.private.Collapses.{times_terms}
use Rattle.backward.proofs.PassWords.{length-added}
use Rattle.backward.proofs.collapse.multiply.Goals as goal

pub loop-term-preserved : goal.loop-term-preserved
loop-term-preserved g c =
    let tracked = g.T.Tracker.tracked c.loop-term.tracker in
    let targets = c.args.targets.now in
    let terms = c.args.terms.now in
    let i = c.loop-term.term-index in
    let d : Term = record { qubit = 0; letter = I } in
    let within : i < length terms = omega arith in
    let term = get_or terms i d in
    record {
      qubits = ap (λ t. t.qubits) c.in_ok-add.ensures ∙ c.loop-term.invariant.qubits;
      words = ap (λ t. length t.words) c.in_ok-add.ensures ∙ (length-added targets term.letter term.qubit tracked ∙ c.loop-term.invariant.words);
      left =
          ap (times_terms targets (drop (i + 1) terms)) c.in_ok-add.ensures
          ∙ (ap (λ ts. times_terms targets ts tracked) (sym (drop_more terms i d within)) ∙ c.loop-term.invariant.left);
    }
