use Rattle.run_laws.proofs.PairLaws.{pair_disagrees}
use Rattle.run_laws.proofs.shift.pair_disagrees.Goals as goal

pub returns : goal.returns
returns c = pair_disagrees
