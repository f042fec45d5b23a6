-- The words of one term and of two.
use Rattle.std.proofs.Common.{◌≡◌, [], ◌∷◌, ap, ◌∙◌}
use Rattle.circuit_walk.specs.Letters.{letters_in}
use Rattle.fault_list.proofs.HeldLineLemmas.{put_and_held}
use Rattle.fault_list.proofs.short_lines.put_word.Goals as goal

pub returns-in-Some : goal.returns-in-Some
returns-in-Some g c = λ qubits fit.
    let parts = c.in-Some.ensures.letters in
    rw parts (put_and_held (c.put_two.ensures qubits (rw parts at fit)))

pub returns-in-None : goal.returns-in-None
returns-in-None g c = λ qubits fit.
    let first = c.in_ok-first.first in
    let parts : letters_in c.args.terms ≡ first ∷ [] = c.in_ok-first.ensures.letters ∙ ap (λ terms. first ∷ terms) c.in-None.ensures.letters in
    rw parts (put_and_held (c.put_lone.ensures qubits (rw parts at fit)))
