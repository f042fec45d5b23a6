use Rattle.std.proofs.Common.{◌<◌, [], ◌∷◌, subst}
use Rattle.std.proofs.lemmas.List.Elements.{All-cons, All-head, All-nil, All-tail}
use Rattle.step_model.specs.declared.step.Term.{Term}
use Rattle.fault_list.specs.FaultLines.{word_text}
use Rattle.fault_list.specs.private.PutTexts.{Puts}
use Rattle.fault_list.proofs.TermLemmas.{two_swapped}
use Rattle.fault_list.proofs.short_lines.put_two.Goals as goal

pub returns-then-second-first : goal.returns-then-second-first
returns-then-second-first c = λ qubits fit.
    let first = c.args.first in
    let second = c.args.second in
    let P = λ (term : Term). term.qubit < qubits in
    let one = All-head P first (second ∷ []) fit in
    let two = All-head P second [] (All-tail P first (second ∷ []) fit) in
    subst (λ w. Puts 24704 c.args.at (word_text w) c.args.buffer.now c.put_ordered.new.buffer c.put_ordered.result)
    (two_swapped qubits first second)
    (c.put_ordered.ensures qubits (All-cons P second (first ∷ []) two (All-cons P first [] one (All-nil P))))
