use Rattle.std.proofs.Common.{Bool, length, ap, ap₂, ◌∙◌}
use Rattle.gate_table.specs.Images.{image1, inverse_of}
use Rattle.gate_table.proofs.Clashes.{image1-clash}
use Rattle.pauli_word.specs.declared.letter.Letter.{Letter}
use Rattle.pauli_word.specs.declared.letter.Letter.TheVariants.{X, Z}
use Rattle.pauli_word.specs.Letters.{letters_clash}
use Rattle.pauli_word.specs.Words.{with_sign_changed}
use Rattle.tableau.specs.private.Encoding.{Pair, word_of}
use Rattle.tableau.proofs.ArrangedPairs.{arranged_is}
use Rattle.tableau.proofs.gates.set_preimages.Goals as goal

pub returns : goal.returns
returns g c =
    let r : Pair = c.args.pair.now in
    let n = length r.0.letters in
    let x_is = c.image1-x.ensures ∙ ap (λ h. image1 h X) c.inverse-inverse.ensures in
    let z_is = c.image1-z.ensures ∙ ap (λ h. image1 h Z) c.inverse-inverse.ensures in
    let clash = ap₂ (λ (x z : Letter × Bool). letters_clash x.0 z.0) x_is z_is ∙ image1-clash (inverse_of c.args.gate) X Z in
    let made = c.arrange.ensures ∙ arranged_is n r c.requires.apart c.image1-x.result.0 c.image1-z.result.0 clash in
    ap₂ (λ x z. (x, z))
    (c.change_sign.ensures
    ∙ (ap (λ (p : Pair). with_sign_changed c.image1-x.result.1 p.0) made ∙ ap (λ (i : Letter × Bool). with_sign_changed i.1 (word_of n r i.0)) x_is))
    (c.change_sign-2.ensures
    ∙ (ap (λ (p : Pair). with_sign_changed c.image1-z.result.1 p.1) made ∙ ap (λ (i : Letter × Bool). with_sign_changed i.1 (word_of n r i.0)) z_is))
