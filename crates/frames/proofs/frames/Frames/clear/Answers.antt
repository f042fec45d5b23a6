use Rattle.std.proofs.Common.{ap, set, sym, subst}
use Rattle.pauli_word.specs.declared.letter.Letter.TheVariants.{I}
use Rattle.frames.specs.LaneFrames.{GoesTo}
use Rattle.frames.specs.LaneLetters.{word_in}
use Rattle.frames.proofs.LaneFrameLaws.{put_letters}
use Rattle.frames.proofs.frames.Frames.clear.Goals as goal

pub returns : goal.returns
returns g c =
    let f = c.args.self.now in
    let q = c.args.qubit in
    subst (λ new. GoesTo f new (λ j v. record v { word = set v.word q I })) (sym c.put.ensures)
    (put_letters f q c.none.result (λ j w. set w q I) (λ j. ap (set (word_in j f.letters) q) (c.none.ensures.letters j)))
