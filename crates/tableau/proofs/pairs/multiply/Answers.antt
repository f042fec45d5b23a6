use Rattle.std.proofs.Common.{true, length, refl, ap, sym, ◌∙◌}
use Rattle.pauli_word.specs.Words.{product, with_sign_changed}
use Rattle.tableau.proofs.PairWords.{times_I, times_Y}
use Rattle.tableau.proofs.Turns.{product_size}
use Rattle.tableau.proofs.pairs.multiply.Goals as goal

pub times-requires-in-Y-2 : goal.times-requires-in-Y-2
times-requires-in-Y-2 g c =
    ap (λ t. length t.letters) c.times-in-Y.ensures
    ∙ (product_size (length c.args.word.now.letters) c.args.word.now c.args.pair.now.0 refl c.requires.size.x ∙ sym c.requires.size.z)

pub returns-in-I : goal.returns-in-I
returns-in-I g c = times_I c.args.word.now c.args.pair.now c.args.letter c.in-I.is

pub returns-in-Y : goal.returns-in-Y
returns-in-Y g c =
    c.change_sign.ensures
    ∙ (ap (with_sign_changed true) (c.times-in-Y-2.ensures ∙ ap (λ t. product t c.args.pair.now.1) c.times-in-Y.ensures)
    ∙ times_Y (length c.args.word.now.letters) c.args.word.now c.args.pair.now c.args.letter refl c.requires.size (c.requires.commuting c.in-Y.is) c.in-Y.is)
