-- The qubits that targets name are within the greatest of them.
use Rattle.std.proofs.Common.{◌≡◌, ℕ, ◌<◌, ◌≤◌, true, List, [], ◌∷◌, map, refl, arith}
use Rattle.std.specs.List.{list_all}
use Rattle.std.proofs.lemmas.Bool.{and_parts}
use Rattle.std.proofs.lemmas.List.Elements.{All-cons, All-nil}
use Rattle.step_model.specs.declared.step.Term.{Term}
use Rattle.step_model.specs.WellFormed.{TermsFit}
use Rattle.stim_lexer.specs.Reached.{greatest_by}
use Rattle.stim_parser.specs.declared.target.Target.{Target}
use Rattle.stim_parser.specs.declared.target.Target.TheVariants.{Plain, Inverted, Pauli}
use Rattle.stim_parser.specs.Limits.{is_pauli, is_plain, is_plain_or_inverted, qubit_of}
use Rattle.stim_parser.specs.Products.{is_factor}
use Rattle.circuit_walk.specs.Targets.{term_of}
use Rattle.circuit_walk.specs.Totals.{qubits_to}

-- one more than the greatest qubit that targets name, and 0 where they name none
abbrev pub qubits_named : List Target → ℕ
qubits_named targets = greatest_by qubits_to targets

pub plain_below : (n : ℕ) (t : Target) → is_plain t ≡ true → qubits_to t ≤ n → qubit_of t < n
plain_below n (Plain q) h le = omega (arith, le)
plain_below n t h le = absurd cc

pub plain_or_inverted_below : (n : ℕ) (t : Target) → is_plain_or_inverted t ≡ true → qubits_to t ≤ n → qubit_of t < n
plain_or_inverted_below n (Plain q) h le = omega (arith, le)
plain_or_inverted_below n (Inverted q) h le = omega (arith, le)
plain_or_inverted_below n t h le = absurd cc

factor_below : (n : ℕ) (t : Target) → is_factor t ≡ true → qubits_to t ≤ n → qubit_of t < n
factor_below n (Pauli inverted l q) h le = omega (arith, le)
factor_below n t h le = absurd cc

-- the letters of factors
pub factors_fit : (n : ℕ) (ts : List Target) → list_all is_factor ts ≡ true → qubits_named ts ≤ n → TermsFit n (map term_of ts)
factors_fit n [] h le = All-nil (λ (term : Term). term.qubit < n)
factors_fit n (t ∷ ts) h le =
    let parts = and_parts (is_factor t) (list_all is_factor ts) h in
    All-cons (λ (term : Term). term.qubit < n) (term_of t) (map term_of ts) (factor_below n t parts.0 (omega (arith, le)))
    (factors_fit n ts parts.1 (omega (arith, le)))

-- targets without a `!` are factors
pauli_factor : (t : Target) → is_pauli t ≡ true → is_factor t ≡ true
pauli_factor (Pauli inverted l q) h = refl
pauli_factor t h = absurd cc

pub pauli_factors : (ts : List Target) → list_all is_pauli ts ≡ true → list_all is_factor ts ≡ true
pauli_factors [] h = refl
pauli_factors (t ∷ ts) h =
    let parts = and_parts (is_pauli t) (list_all is_pauli ts) h in
    rw (pauli_factor t parts.0) (pauli_factors ts parts.1)
