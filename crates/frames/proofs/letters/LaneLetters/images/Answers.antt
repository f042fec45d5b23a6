use Rattle.std.proofs.Common.{ap, ◌∙◌}
use Rattle.bit_rows.specs.Lanes.{lane_bit}
use Rattle.frames.specs.LaneLetters.{times_where}
use Rattle.frames.proofs.LaneLaws.{first-lanes, second-lanes}
use Rattle.frames.proofs.letters.LaneLetters.images.Goals as goal

pub returns-clause-first : goal.returns-clause-first
returns-clause-first c j =
    let l = c.args.a in
    let r = c.args.b in
    c.times_images.ensures j
    ∙ ap (λ a. times_where (lane_bit j r.z) c.image2-az_of_b.result.0 (times_where (lane_bit j r.x) c.image2-ax_of_b.result.0 a))
    (c.times_images-first.ensures j
    ∙ ap (λ a. times_where (lane_bit j l.z) c.image2-az.result.0 (times_where (lane_bit j l.x) c.image2-ax.result.0 a)) (c.none.ensures.letters j))
    ∙ rw (c.image2-ax.ensures, c.image2-az.ensures, c.image2-ax_of_b.ensures, c.image2-az_of_b.ensures) (first-lanes c.args.gate j l r)

pub returns-clause-second : goal.returns-clause-second
returns-clause-second c j =
    let l = c.args.a in
    let r = c.args.b in
    c.times_images-2.ensures j
    ∙ ap (λ a. times_where (lane_bit j r.z) c.image2-az_of_b.result.1 (times_where (lane_bit j r.x) c.image2-ax_of_b.result.1 a))
    (c.times_images-second.ensures j
    ∙ ap (λ a. times_where (lane_bit j l.z) c.image2-az.result.1 (times_where (lane_bit j l.x) c.image2-ax.result.1 a)) (c.none-2.ensures.letters j))
    ∙ rw (c.image2-ax.ensures, c.image2-az.ensures, c.image2-ax_of_b.ensures, c.image2-az_of_b.ensures) (second-lanes c.args.gate j l r)
