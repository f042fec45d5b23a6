use Rattle.std.proofs.Common.{ap, ◌∙◌}
use Rattle.bit_rows.specs.Lanes.{lane_bit}
use Rattle.frames.specs.LaneLetters.{times_where}
use Rattle.frames.proofs.letters.LaneLetters.times_images.Goals as goal

pub returns : goal.returns
returns c j = c.times-2.ensures j ∙ ap (times_where (lane_bit j c.args.others.z) c.args.z) (c.times.ensures j)
