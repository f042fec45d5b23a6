-- The digits of qubits' numbers, kept each at the start of a fixed number of bytes. (This project's own.)
use Rattle.std.specs.Prelude.{◌≡◌, ◌<◌, ◌≤◌, ℕ, List, decimal, slice_index_or, take}
use Rattle.fault_list.specs.declared.qubit_names.Name.{Name}

-- the first bytes are the digits of a qubit
pub record IsName (qubit : ℕ) (name : Name) : Type 0 where
  pub within : name.len ≤ 4
  pub digits : take name.len name.digits ≡ decimal qubit

-- the first ones are those of the first qubits
abbrev pub AreNames : ℕ → List Name → Type 0
AreNames count names = (qubit : ℕ) (d : Name) → qubit < count → IsName qubit (slice_index_or names qubit d)
