-- The qubits that an instruction of a circuit names are the circuit's, for the greatest of a list is that of its parts.
use Rattle.std.proofs.Common.{◌≡◌, ℕ, List, [], ◌∷◌, ◌++◌, arith}
use Rattle.std.specs.Prelude.{max}
use Rattle.stim_parser.specs.Verdicts.{Instruction}
use Rattle.stim_lexer.specs.Reached.{greatest_by}

pub greatest-append : (count : Instruction → ℕ) (is js : List Instruction) → greatest_by count (is ++ js) ≡ max (greatest_by count is) (greatest_by count js)
greatest-append count [] js = omega arith
greatest-append count (i ∷ is) js = omega (arith, greatest-append count is js)
