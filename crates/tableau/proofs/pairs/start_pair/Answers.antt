use Rattle.std.proofs.Common.{set, ap, ap₂, ◌∙◌}
use Rattle.pauli_word.specs.declared.letter.Letter.TheVariants.{X, Z}
use Rattle.pauli_word.specs.Words.{signed}
use Rattle.tableau.proofs.StartLaws.{identity_inside}
use Rattle.tableau.proofs.pairs.start_pair.Goals as goal

pub set_letter-requires : goal.set_letter-requires
set_letter-requires g c = identity_inside c.args.n c.args.qubit c.in_ok-x.x c.in_ok-x.ensures c.requires

pub set_letter-requires-2 : goal.set_letter-requires-2
set_letter-requires-2 g c = identity_inside c.args.n c.args.qubit c.in_ok-z.z c.in_ok-z.ensures c.requires

pub returns : goal.returns
returns g c =
    ap₂ (λ x z. (x, z)) (c.set_letter.ensures ∙ ap (λ w. signed (set w.letters c.args.qubit X) w.negative) c.in_ok-x.ensures)
    (c.set_letter-2.ensures ∙ ap (λ w. signed (set w.letters c.args.qubit Z) w.negative) c.in_ok-z.ensures)
