-- What the targets of an instruction name: qubits, letters at qubits, and products, which are factors joined by stars.
-- (Stim's circuit format, github.com/quantumlib/Stim, doc/file_format_stim_circuit.md, "Target Types".)
use Rattle.std.specs.Prelude.{Bool, true, false, List, [], ◌∷◌}
use Rattle.pauli_word.specs.declared.letter.Letter.{Letter}
use Rattle.pauli_word.specs.declared.letter.Letter.TheVariants as letter
use Rattle.pauli_word.specs.Parity.{exclusive_or}
use Rattle.step_model.specs.declared.step.Term.{Term}
use Rattle.stim_parser.specs.declared.target.Target.{Target}
use Rattle.stim_parser.specs.declared.target.Target.TheVariants.{Inverted, Pauli}
use Rattle.stim_parser.specs.Limits.{qubit_of}

-- whether a target has a `!`
abbrev pub is_inverted : Target → Bool
is_inverted (Inverted q) = true
is_inverted (Pauli inverted l q) = inverted
is_inverted target = false

-- the letter of a Pauli target
abbrev pub pauli_letter : Target → Letter
pauli_letter (Pauli inverted l q) = l
pauli_letter target = letter.I

-- a letter at the qubit of a target, and a Pauli target as it is written
abbrev pub term_at : Letter → Target → Term
term_at l target = record { qubit = qubit_of target; letter = l }

-- a Pauli target as it is written
abbrev pub term_of : Target → Term
term_of target = term_at (pauli_letter target) target

-- whether an odd number of factors has a `!`
abbrev pub is_product_inverted : List Target → Bool
is_product_inverted [] = false
is_product_inverted (factor ∷ factors) = exclusive_or (is_inverted factor) (is_product_inverted factors)
