-- How many observables a circuit has, as one pass counts them.
use Rattle.std.proofs.Common.{◌≡◌, ℕ, ◌+◌, List, Option, refl, ap}
use Rattle.std.specs.Prelude.{unwrap_or}
use Rattle.stim_parser.specs.declared.operation.Operation.{Operation}
use Rattle.stim_parser.specs.declared.operation.Operation.TheVariants.{ObservableInclude}
use Rattle.stim_parser.proofs.NumberArguments.{NamesNumber}
use Rattle.unroll.specs.private.Observables.{named_to}
use Rattle.circuit_walk.specs.Totals.{observables_to}

-- ---- how many observables there are

pub one-to : (o : Operation) (arguments : List (List ℕ)) → NamesNumber o arguments → named_to o arguments ≡ observables_to o arguments
one-to ObservableInclude arguments h = ap (λ (n : Option ℕ). unwrap_or n 0 + 1) h
one-to o arguments h = refl
