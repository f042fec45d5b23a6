use Rattle.std.proofs.Common.{◌≡◌, ap, ap₂, false, set, sym, subst, ◌∙◌}
use Rattle.gate_table.specs.Images.{image2}
use Rattle.gate_table.specs.WordImages.{image_at_two}
use Rattle.pauli_word.specs.Words.{signed}
use Rattle.frames.specs.LaneFrames.{GoesTo, LaneFrames}
use Rattle.frames.specs.LaneLetters.{word_in}
use Rattle.frames.proofs.LaneFrameLaws.{put_two, with_letters}
use Rattle.frames.proofs.frames.Frames.move_two.Goals as goal

pub returns : goal.returns
returns g c =
    let f = c.args.self.now in
    let gate = c.args.gate in
    let a = c.args.a in
    let b = c.args.b in
    let put : c.put-2.new.self ≡ with_letters f (set (set f.letters a c.images.result.0) b c.images.result.1) =
    c.put-2.ensures ∙ ap (λ (k : LaneFrames). with_letters k (set k.letters b c.images.result.1)) c.put.ensures in
    subst (λ new. GoesTo f new (λ j v. record v { word = (image_at_two gate a b (signed v.word false)).letters })) (sym put)
    (put_two f a b c.images.result.0 c.images.result.1 (λ j w. (image_at_two gate a b (signed w false)).letters)
    (λ j.
    ap₂ (λ x y. set (set (word_in j f.letters) a x) b y)
    (c.images.ensures.first j ∙ ap₂ (λ x y. (image2 gate x y).0) (c.at.ensures j) (c.at-2.ensures j))
    (c.images.ensures.second j ∙ ap₂ (λ x y. (image2 gate x y).1) (c.at.ensures j) (c.at-2.ensures j))))
