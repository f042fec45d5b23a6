use Rattle.std.proofs.Common.{length, sym, subst}
use Rattle.pauli_word.specs.declared.letter.Letter.TheVariants.{X, Z}
use Rattle.tableau.specs.private.Encoding.{HasLength}
use Rattle.tableau.proofs.ControlledRows.{controlled_size, second_multiplied}
use Rattle.tableau.proofs.controlled.multiply_both.Goals as goal

pub multiply_clashing-requires-clause-commuting : goal.multiply_clashing-requires-clause-commuting
multiply_clashing-requires-clause-commuting g c is_Y = record { x = c.requires.commuting X; z = c.requires.commuting Z }

pub multiply_clashing-requires-2-clause-size : goal.multiply_clashing-requires-2-clause-size
multiply_clashing-requires-2-clause-size g c = subst (λ m. HasLength m c.args.second.now) (sym c.requires.second.x) c.requires.second

pub multiply_clashing-requires-2-clause-others : goal.multiply_clashing-requires-2-clause-others
multiply_clashing-requires-2-clause-others g c =
    subst (λ m. HasLength m c.multiply_clashing.new.pair) (sym c.requires.second.x)
    (subst (HasLength (length c.args.first.now.0.letters)) (sym c.multiply_clashing.ensures)
    (controlled_size (length c.args.first.now.0.letters) c.args.own c.args.other c.args.first.now c.args.second.now c.requires.first c.requires.second))

pub multiply_clashing-requires-2-clause-commuting : goal.multiply_clashing-requires-2-clause-commuting
multiply_clashing-requires-2-clause-commuting g c is_Y = absurd (c.requires.own is_Y)

pub returns-clause-second : goal.returns-clause-second
returns-clause-second g c =
    second_multiplied (length c.args.first.now.0.letters) (length c.args.second.now.0.letters) c.args.own c.args.other c.args.first.now c.args.second.now c.multiply_clashing.new.pair c.multiply_clashing-2.new.pair
    c.requires.first c.requires.own c.requires.second.x c.multiply_clashing.ensures c.multiply_clashing-2.ensures
