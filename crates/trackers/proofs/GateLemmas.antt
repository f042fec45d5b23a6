-- The inverse of a gate, as it is looked up.
use Rattle.std.proofs.Common.{◌≡◌, ℕ, ap, ◌∙◌}
use Rattle.gate_table.specs.declared.gate.Gate.{Gate}
use Rattle.gate_table.specs.Images.{arity_of, inverse_of}
use Rattle.gate_table.proofs.Inverses.{arity_of-inverse_of}

-- it acts on as many qubits
pub arity_kept : (gate inverse : Gate) {n : ℕ} → inverse ≡ inverse_of gate → arity_of gate ≡ n → arity_of inverse ≡ n
arity_kept gate inverse is h = ap arity_of is ∙ (arity_of-inverse_of gate ∙ h)
