use Rattle.backward.proofs.StepLemmas.{passed_as}
use Rattle.backward.proofs.random.first_random.Goals as goal

pub random_from_end-requires-clause-passed : goal.random_from_end-requires-clause-passed
random_from_end-requires-clause-passed g c = passed_as c.end.ensures.place c.requires c.in_ok-found.ensures.passed
