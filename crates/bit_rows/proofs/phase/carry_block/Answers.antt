use Rattle.bit_rows.proofs.VectorLanes.{carried_lane}
use Rattle.bit_rows.proofs.phase.carry_block.Goals as goal

pub returns : goal.returns
returns c =
    carried_lane c.args.ones c.args.twos c.args.xa.now c.args.za.now c.args.xb.now c.args.zb.now c.args.at c.fits-ones.0 c.fits-twos.0
    c.requires.xa c.requires.za c.requires.xb c.requires.zb
