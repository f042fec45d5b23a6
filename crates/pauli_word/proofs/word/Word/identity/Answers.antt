use Rattle.std.proofs.Common.{false, ap, ap₂, ◌∙◌}
use Rattle.pauli_word.proofs.BitWords.{seen, signed, letters_of-zeros}
use Rattle.pauli_word.proofs.word.Word.identity.Goals as goal

pub returns : goal.returns
returns g c =
    ap₂ (λ x z. seen x z false) c.in_ok-zeros.ensures c.in_ok-zeros-2.ensures
    ∙ ap (λ p. signed p false) (letters_of-zeros c.args.n)
