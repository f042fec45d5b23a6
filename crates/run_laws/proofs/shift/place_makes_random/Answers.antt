use Rattle.run_laws.proofs.PairLaws.{place_makes_random}
use Rattle.run_laws.proofs.shift.place_makes_random.Goals as goal

pub returns : goal.returns
returns c = place_makes_random
