use Rattle.std.proofs.Common.{refl}
use Rattle.stim_parser.specs.Arguments.{arguments_in}
use Rattle.stim_parser.specs.Limits.{has_wrong_arguments, has_wrong_probability}
use Rattle.stim_parser.proofs.last.Accepted.none.Goals as goal

pub returns-clause-accepted : goal.returns-clause-accepted
unfolding arguments_in has_wrong_arguments has_wrong_probability
returns-clause-accepted c = ((refl, refl, refl), refl)
