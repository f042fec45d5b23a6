use Rattle.std.proofs.Common.{ap, false, set, sym, subst, ◌∙◌}
use Rattle.gate_table.specs.Images.{image1}
use Rattle.gate_table.specs.WordImages.{image_at}
use Rattle.pauli_word.specs.Words.{signed}
use Rattle.frames.specs.LaneFrames.{GoesTo}
use Rattle.frames.specs.LaneLetters.{word_in}
use Rattle.frames.proofs.LaneFrameLaws.{put_letters}
use Rattle.frames.proofs.frames.Frames.move_one.Goals as goal

pub returns : goal.returns
returns g c =
    let f = c.args.self.now in
    let gate = c.args.gate in
    let q = c.args.qubit in
    subst (λ new. GoesTo f new (λ j v. record v { word = (image_at gate q (signed v.word false)).letters })) (sym c.put.ensures)
    (put_letters f q c.image-image.result (λ j w. (image_at gate q (signed w false)).letters)
    (λ j. ap (set (word_in j f.letters) q) (c.image-image.ensures j ∙ ap (λ a. (image1 gate a).0) (c.at.ensures j))))
