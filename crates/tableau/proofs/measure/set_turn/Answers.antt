use Rattle.std.proofs.Common.{Bool, length, set, refl, ap, ap₂, sym, ◌∙◌}
use Rattle.pauli_word.specs.declared.letter.Letter.{Letter}
use Rattle.pauli_word.specs.declared.letter.Letter.TheVariants.{Z}
use Rattle.pauli_word.specs.Letters.{is_minus, letter_power, letter_product}
use Rattle.pauli_word.specs.Words.{Signed, signed, letter_at, with_sign_changed}
use Rattle.tableau.proofs.LoneWords.{product_of_lone}
use Rattle.tableau.proofs.measure.set_turn.Goals as goal

pub returns-clause-second : goal.returns-clause-second
returns-clause-second g c =
    let q = c.args.qubit in
    let w = with_sign_changed c.args.coin c.args.code.now.0 in
    let put : Signed → Letter × Bool → Signed = λ p t. with_sign_changed t.1 (signed (set p.letters q t.0) p.negative) in
    let here = c.letter.ensures ∙ ap (λ (p : Signed). letter_at p.letters q) c.change_sign.ensures in
    c.change_sign-2.ensures
    ∙ (ap (with_sign_changed c.times_z-letter.result.1) c.set_letter.ensures
    ∙ (ap₂ put (c.copy_from.ensures ∙ c.change_sign.ensures) (c.times_z-letter.ensures ∙ ap (λ a. (letter_product Z a, is_minus (letter_power Z a))) here)
    ∙ sym (product_of_lone (length c.args.code.now.0.letters) q Z w refl c.requires.inside)))
