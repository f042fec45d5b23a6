use Rattle.forward_sim.proofs.LaneLemmas.{draws_one}
use Rattle.forward_sim.proofs.lane_draws.toss.Goals as goal

pub returns : goal.returns
returns c = draws_one c.args.lane c.args.c c.args.coin c.args.coins.now c.with_coin.result c.requires.within c.with_coin.ensures
