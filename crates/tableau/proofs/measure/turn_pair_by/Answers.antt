use Rattle.std.proofs.Common.{cond, ap, subst}
use Rattle.std.proofs.lemmas.Bool.{eq-eqb}
use Rattle.pauli_word.specs.declared.letter.Letter.TheVariants.{I}
use Rattle.tableau.specs.private.EncodingSteps.{TurnsAt}
use Rattle.tableau.proofs.measure.turn_pair_by.Goals as goal

pub turn_pair-requires-clause-clashes : goal.turn_pair-requires-clause-clashes
turn_pair-requires-clause-clashes g c =
    subst (λ a. TurnsAt a c.args.origin.pivot c.args.turn.now c.args.pair.now)
    (ap (λ t. cond t c.args.origin.letter I) (eq-eqb c.args.qubit c.args.origin.qubit c.if-qubit-origin.true)) c.requires.clashes
