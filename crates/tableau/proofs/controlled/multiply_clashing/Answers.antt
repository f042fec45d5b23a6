use Rattle.std.proofs.Common.{length, ap, ap₂, sym, subst, ◌∙◌}
use Rattle.pauli_word.specs.Words.{product}
use Rattle.gate_table.specs.Images.{factor}
use Rattle.tableau.specs.private.Encoding.{HasLength, word_of}
use Rattle.tableau.proofs.ControlledRows.{factor_is_Y}
use Rattle.tableau.proofs.controlled.multiply_clashing.Goals as goal

pub multiply-requires-clause-commuting : goal.multiply-requires-clause-commuting
multiply-requires-clause-commuting g c is_Y = (c.requires.commuting (factor_is_Y c.clashes.result c.args.other (sym c.factor.ensures ∙ is_Y))).x

pub multiply-requires-2-clause-size : goal.multiply-requires-2-clause-size
multiply-requires-2-clause-size g c = subst (λ m. HasLength m c.args.others.now) (sym c.requires.size.z) c.requires.others

pub multiply-requires-2-clause-commuting : goal.multiply-requires-2-clause-commuting
multiply-requires-2-clause-commuting g c is_Y = (c.requires.commuting (factor_is_Y c.clashes-2.result c.args.other (sym c.factor-2.ensures ∙ is_Y))).z

pub returns : goal.returns
returns g c =
    ap₂ (λ x z. (x, z))
    (c.multiply.ensures ∙ ap (λ f. product c.args.pair.now.0 (word_of (length c.args.pair.now.0.letters) c.args.others.now f)) (c.factor.ensures ∙ ap (λ b. factor b c.args.other) c.clashes.ensures))
    (c.multiply-2.ensures ∙ ap₂ (λ m f. product c.args.pair.now.1 (word_of m c.args.others.now f)) c.requires.size.z (c.factor-2.ensures ∙ ap (λ b. factor b c.args.other) c.clashes-2.ensures))
