use Rattle.std.proofs.Common.{ℕ, set, subst, sym, ap, ap₂, ◌<◌, ◌∙◌}
use Rattle.pauli_word.specs.declared.letter.Letter.TheVariants.{X, Z}
use Rattle.pauli_word.specs.Words.{signed}
use Rattle.tableau.specs.private.EncodingSteps.{start_pair}
use Rattle.tableau.proofs.StartLaws.{identity_inside}
use Rattle.tableau.proofs.pairs.restart_pair.Goals as goal

pub set_letter-requires : goal.set_letter-requires
set_letter-requires g c = identity_inside _ c.args.qubit c.clear.new.self c.clear.ensures c.requires.inside

pub set_letter-requires-2 : goal.set_letter-requires-2
set_letter-requires-2 g c =
    identity_inside _ c.args.qubit c.clear-2.new.self c.clear-2.ensures (subst (λ (n : ℕ). c.args.qubit < n) (sym c.requires.size.z) c.requires.inside)

pub returns : goal.returns
returns g c =
    ap₂ (λ x z. (x, z)) (c.set_letter.ensures ∙ ap (λ w. signed (set w.letters c.args.qubit X) w.negative) c.clear.ensures)
    (c.set_letter-2.ensures ∙ ap (λ w. signed (set w.letters c.args.qubit Z) w.negative) c.clear-2.ensures ∙ ap (λ (n : ℕ). (start_pair n c.args.qubit).1) c.requires.size.z)
