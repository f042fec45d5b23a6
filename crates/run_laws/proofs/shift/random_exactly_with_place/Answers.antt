use Rattle.run_laws.proofs.PairLaws.{random_exactly_with_place}
use Rattle.run_laws.proofs.shift.random_exactly_with_place.Goals as goal

pub returns : goal.returns
returns c = random_exactly_with_place
