use Rattle.bit_rows.proofs.Blocks.{XorsWithin-block}
use Rattle.bit_rows.proofs.xor.xor_block.Goals as goal

pub returns : goal.returns
returns c = XorsWithin-block c.args.first.now c.args.second.now c.args.at 8 c.requires.own c.requires.other
