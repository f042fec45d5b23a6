use Rattle.std.proofs.Common.{◌≡◌, drop}
use Rattle.std.specs.List.{list_all}
use Rattle.stim_parser.specs.Limits.{is_probability}
use Rattle.stim_parser.proofs.argument_checks.are_probabilities.Given as goal

abbrev pub invariant-loop-argument : goal.invariant-loop-argument
invariant-loop-argument l = list_all (λ argument. is_probability argument.now) (drop l.argument-index l.arguments) ≡ list_all (λ argument. is_probability argument.now) l.arguments
