use Rattle.std.proofs.Common.{length, ap, sym, subst, ◌∙◌}
use Rattle.pauli_word.specs.Words.{product, with_sign_changed}
use Rattle.pauli_word.proofs.SignedLaws.{product_of_identity}
use Rattle.tableau.specs.private.Encoding.{HasLength, word_of}
use Rattle.tableau.proofs.PairWords.{started_size, then_times}
use Rattle.tableau.proofs.RowMaps.{word_of_size}
use Rattle.tableau.proofs.gates.set_product.Goals as goal

pub multiply-requires-clause-size : goal.multiply-requires-clause-size
multiply-requires-clause-size g c =
    subst (λ m. HasLength m c.args.second.now) (sym (started_size (length c.args.word.now.letters) c.set_word-in_default.new.word c.args.first.now c.args.letters.0 c.requires.first c.set_word-in_default.ensures)) c.requires.second

pub returns-in-I : goal.returns-in-I
returns-in-I g c =
    c.set_word.ensures
    ∙ ap (with_sign_changed c.args.letters.2)
    (sym
    (ap (λ a. product (word_of (length c.args.word.now.letters) c.args.first.now a) (word_of (length c.args.word.now.letters) c.args.second.now c.args.letters.1)) c.in-I.is
    ∙ product_of_identity (length c.args.word.now.letters) (word_of (length c.args.word.now.letters) c.args.second.now c.args.letters.1)
    (word_of_size (length c.args.word.now.letters) c.args.second.now c.args.letters.1 c.requires.second.x c.requires.second.z)))

pub returns-in_default : goal.returns-in_default
returns-in_default g c =
    c.change_sign.ensures
    ∙ ap (with_sign_changed c.args.letters.2)
    (then_times (length c.args.word.now.letters) c.set_word-in_default.new.word c.multiply.new.word c.args.first.now c.args.second.now c.args.letters.0 c.args.letters.1 c.requires.first c.set_word-in_default.ensures c.multiply.ensures)
