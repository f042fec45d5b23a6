use Rattle.bit_rows.proofs.Carries.{carried-join}
use Rattle.bit_rows.proofs.phase.join.Goals as goal

pub returns : goal.returns
returns c = carried-join c.args.ones c.args.twos c.args.more_ones c.args.more_twos
