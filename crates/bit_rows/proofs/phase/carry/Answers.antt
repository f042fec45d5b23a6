use Rattle.bit_rows.proofs.Carries.{carried-step}
use Rattle.bit_rows.proofs.phase.carry.Goals as goal

pub returns : goal.returns
returns c = carried-step c.args.ones c.args.twos c.args.xa c.args.za c.args.xb c.args.zb
