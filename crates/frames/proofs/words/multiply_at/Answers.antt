use Rattle.std.proofs.Common.{length, refl}
use Rattle.pauli_word.proofs.LoneLetters.{letters_product-lone_letter}
use Rattle.frames.proofs.words.multiply_at.Goals as goal

pub returns : goal.returns
returns g c =
    let w = c.args.word.now.letters in
    let product = letters_product-lone_letter (length w) w c.args.qubit c.args.letter refl c.requires in
    rw (product, ← c.letter.ensures, ← c.times.ensures) c.set_letter.ensures
