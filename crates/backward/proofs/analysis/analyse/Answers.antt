use Rattle.backward.proofs.StepLemmas.{passed_as}
use Rattle.backward.proofs.analysis.analyse.Goals as goal

pub find_from_end-requires-clause-passed : goal.find_from_end-requires-clause-passed
find_from_end-requires-clause-passed g c = passed_as c.end.ensures.place c.requires c.in_ok-found.ensures.passed
