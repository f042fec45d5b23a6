-- At which qubits factors of a product are.
use Rattle.std.specs.Prelude.{◌≢◌, ◌≤◌, ℕ, All, List}
use Rattle.pauli_word.specs.declared.letter.Letter.{Letter}

-- they are at qubits from one to another
abbrev pub AreBetween : ℕ → ℕ → List (ℕ × Letter) → Type 0
AreBetween lowest highest factors = All (λ factor. (lowest ≤ factor.0) × (factor.0 ≤ highest)) factors

-- none is at this qubit
abbrev pub NameNone : ℕ → List (ℕ × Letter) → Type 0
NameNone qubit factors = All (λ factor. factor.0 ≢ qubit) factors
