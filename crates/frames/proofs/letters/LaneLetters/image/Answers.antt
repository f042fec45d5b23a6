use Rattle.std.proofs.Common.{◌≡◌, ap, ap₂, Bool, ◌∙◌}
use Rattle.gate_table.specs.Images.{image1}
use Rattle.bit_rows.specs.Lanes.{lane_bit}
use Rattle.pauli_word.specs.declared.letter.Letter.{Letter}
use Rattle.pauli_word.specs.declared.letter.Letter.TheVariants.{I, X, Z}
use Rattle.frames.specs.LaneLetters.{times_where}
use Rattle.frames.proofs.LaneLaws.{image-lanes}
use Rattle.frames.proofs.letters.LaneLetters.image.Goals as goal

pub returns : goal.returns
returns c j =
    let l = c.args.self in
    let x : c.image1-x.result.0 ≡ (image1 c.args.gate X).0 = ap (λ (p : Letter × Bool). p.0) c.image1-x.ensures in
    let z : c.image1-z.result.0 ≡ (image1 c.args.gate Z).0 = ap (λ (p : Letter × Bool). p.0) c.image1-z.ensures in
    c.times_images.ensures j
    ∙ ap (λ a. times_where (lane_bit j l.z) c.image1-z.result.0 (times_where (lane_bit j l.x) c.image1-x.result.0 a)) (c.none.ensures.letters j)
    ∙ ap₂ (λ a b. times_where (lane_bit j l.z) b (times_where (lane_bit j l.x) a I)) x z
    ∙ image-lanes c.args.gate j l
