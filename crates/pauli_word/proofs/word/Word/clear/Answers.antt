use Rattle.std.proofs.Common.{false, ap, ap₂, sym, length, replicate, ◌∙◌}
use Rattle.pauli_word.proofs.BitWords.{seen, signed, letters_of-zeros, length-letters_of}
use Rattle.pauli_word.specs.Words.{no_letters}
use Rattle.pauli_word.proofs.word.Word.clear.Goals as goal

pub returns : goal.returns
returns g c =
    c.set_sign.ensures
    ∙ ap₂ (λ x z. seen x z false) c.clear.ensures (c.clear-2.ensures ∙ ap (λ m. replicate m false) (sym c.self.invariant))
    ∙ ap (λ p. signed p false)
    (letters_of-zeros (length c.self.inside.x)
    ∙ ap no_letters (sym (length-letters_of c.self.inside.x c.self.inside.z c.self.invariant) ∙ ap (λ w. length w.letters) c.self.view_is))
