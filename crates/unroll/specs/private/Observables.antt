-- The observable that an instruction names. (Stim's gate reference, github.com/quantumlib/Stim, doc/gates.md,
-- "OBSERVABLE_INCLUDE".)
use Rattle.std.specs.Prelude.{ℕ, ◌+◌, List, unwrap_or}
use Rattle.stim_parser.specs.declared.operation.Operation.{Operation}
use Rattle.stim_parser.specs.declared.operation.Operation.TheVariants.{ObservableInclude}
use Rattle.stim_parser.specs.Coordinates.{first_number}

-- one more than the observable that an operation names
abbrev pub named_to : Operation → List (List ℕ) → ℕ
named_to ObservableInclude arguments = unwrap_or (first_number arguments) 0 + 1
named_to operation arguments = 0
