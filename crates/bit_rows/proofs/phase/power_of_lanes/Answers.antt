use Rattle.std.proofs.Common.{◌%◌, ap, ◌∙◌}
use Rattle.bit_rows.proofs.phase.power_of_lanes.Goals as goal

pub returns : goal.returns
returns c = ap (λ s. s % 4) c.power_held.ensures.value ∙ c.join_lanes-one.ensures
