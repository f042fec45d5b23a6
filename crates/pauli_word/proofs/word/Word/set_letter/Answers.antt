use Rattle.std.proofs.Common.{arith, ap, ap₂, set, ◌∙◌}
use Rattle.pauli_word.proofs.BitWords.{seen, seen_length, seen_set}
use Rattle.pauli_word.proofs.word.Word.set_letter.Goals as goal

pub set-requires : goal.set-requires
set-requires g c =
    let rows = seen_length c.self.inside.x c.self.inside.z c.self.inside.negative c.args.self.now c.self.invariant c.self.view_is in
    omega (arith, rows, c.requires)

pub set-requires-2 : goal.set-requires-2
set-requires-2 g c =
    let rows = seen_length c.self.inside.x c.self.inside.z c.self.inside.negative c.args.self.now c.self.invariant c.self.view_is in
    omega (arith, rows, c.self.invariant, c.requires)

pub returns : goal.returns
returns g c =
    ap₂ (λ x z. seen x z c.self.inside.negative)
    (c.set.ensures ∙ ap (set c.self.inside.x c.args.qubit) c.x_bit.ensures)
    (c.set-2.ensures ∙ ap (set c.self.inside.z c.args.qubit) c.z_bit.ensures)
    ∙ seen_set c.self.inside.x c.self.inside.z c.self.inside.negative c.args.self.now c.args.qubit c.args.letter c.self.view_is
