-- Targets whose numbers are within the limits of a circuit. (The limits are this project's.)
use Rattle.std.specs.Prelude.{◌≤◌, ℕ}
use Rattle.stim_parser.specs.declared.target.Target.{Target}
use Rattle.stim_parser.specs.declared.target.Target.TheVariants.{Back}
use Rattle.stim_parser.specs.Numbers.{most_qubits}
use Rattle.circuit_walk.specs.Totals.{qubits_to}

-- the qubit of a target is within the limit
abbrev pub HasSmallQubit : Target → Type 0
HasSmallQubit target = qubits_to target ≤ most_qubits

-- how far back a target reaches
abbrev pub back_of : Target → ℕ
back_of (Back k) = k
back_of target = 0
