use Rattle.std.proofs.Common.{◌<◌, length, ap, sym, ◌∙◌, arith}
use Rattle.std.proofs.lemmas.List.{get_or-map}
use Rattle.pauli_word.specs.declared.letter.Letter.TheVariants.{I}
use Rattle.pauli_word.specs.Words.{letter_at}
use Rattle.frames.specs.LaneFrames.{LaneFrames}
use Rattle.frames.specs.LaneLetters.{letter_in, word_in}
use Rattle.frames.proofs.frames.Frames.at.Goals as goal

pub returns : goal.returns
returns g c j =
    let letters = c.self.inside.letters.items in
    let within : c.args.qubit < length letters = omega (arith, c.requires, ap (λ (f : LaneFrames). length f.letters) c.self.view_is) in
    ap (letter_in j) c.index.ensures
    ∙ (sym (get_or-map (letter_in j) letters c.args.qubit c.index.result.now I within)
    ∙ ap (λ (f : LaneFrames). letter_at (word_in j f.letters) c.args.qubit) c.self.view_is)
