-- The numbers of an instruction's targets, as steps and totals take them.
use Rattle.std.proofs.Common.{◌≤◌, arith}
use Rattle.std.specs.Prelude.{All}
use Rattle.stim_parser.specs.declared.target.Target.{Target}
use Rattle.stim_parser.specs.declared.target.Target.TheVariants.{Plain, Inverted, Back, Pauli, Star}
use Rattle.stim_parser.specs.Circuits.{Fits}
use Rattle.stim_parser.specs.Verdicts.{Instruction}
use Rattle.stim_parser.proofs.TargetNumbers.{IsWithin, targets_within}
use Rattle.stim_parser.specs.Numbers.{most_qubits}
use Rattle.unroll.specs.private.Pushed.{back_of}
use Rattle.circuit_walk.specs.Totals.{qubits_to}

qubit_within : (t : Target) → IsWithin t → qubits_to t ≤ most_qubits
qubit_within (Plain q) h = omega (arith, h)
qubit_within (Inverted q) h = omega (arith, h)
qubit_within (Pauli inverted l q) h = omega (arith, h)
qubit_within (Back n) h = omega arith
qubit_within Star h = omega arith

back_within : (t : Target) → IsWithin t → back_of t ≤ 999_999_999_999_999_999
back_within (Back n) h = h
back_within (Plain q) h = omega arith
back_within (Inverted q) h = omega arith
back_within (Pauli inverted l q) h = omega arith
back_within Star h = omega arith

pub qubits_within : (i : Instruction) → Fits i → All (λ t. qubits_to t ≤ most_qubits) i.targets
qubits_within i fits = λ k d lt. qubit_within _ (targets_within i fits k d lt)

pub backs_within : (i : Instruction) → Fits i → All (λ t. back_of t ≤ 999_999_999_999_999_999) i.targets
backs_within i fits = λ k d lt. back_within _ (targets_within i fits k d lt)
