use Rattle.std.proofs.Common.{ap, length, set, sym, subst, ◌∙◌}
use Rattle.bit_rows.specs.Lanes.{lane_bit}
use Rattle.pauli_word.specs.Words.{lone_letter}
use Rattle.step_model.specs.Sensitivities.{multiplied}
use Rattle.frames.specs.private.Followed.{multiplied_in}
use Rattle.frames.specs.LaneFrames.{GoesTo}
use Rattle.frames.specs.LaneLetters.{word_in, times_where}
use Rattle.frames.proofs.LaneFrameLaws.{length-word_in, put_letters, set-times}
use Rattle.frames.proofs.frames.Frames.times.Goals as goal

pub returns : goal.returns
returns g c =
    let f = c.args.self.now in
    let n = length f.letters in
    let q = c.args.qubit in
    let a = c.args.letter in
    let runs = c.args.runs in
    subst (λ new. GoesTo f new (multiplied_in runs (lone_letter n q a))) (sym c.put.ensures)
    (put_letters f q c.times-letters.result (λ j w. multiplied (lane_bit j runs) (lone_letter n q a) w)
    (λ j.
    ap (set (word_in j f.letters) q) (c.times-letters.ensures j ∙ ap (times_where (lane_bit j runs) a) (c.at.ensures j))
    ∙ set-times n (lane_bit j runs) (word_in j f.letters) q a (length-word_in j f.letters) c.requires))
