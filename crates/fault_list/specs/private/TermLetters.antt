-- The letter that a list of letters at qubits makes at one qubit: the product of those there, its sign left out; and
-- whether the list is at ascending qubits, as most are, so that its factors are those of its word. (Products of Pauli
-- matrices.)
use Rattle.std.specs.Prelude.{ℕ, ◌+◌, ◌==◌, nat_lt, Bool, true, false, if◌then◌else◌, List, [], ◌∷◌, ◌++◌, codes}
use Rattle.std.specs.List.{flat_map}
use Rattle.pauli_word.specs.declared.letter.Letter.{Letter}
use Rattle.pauli_word.specs.declared.letter.Letter.TheVariants.{I}
use Rattle.pauli_word.specs.Letters.{letter_product}
use Rattle.step_model.specs.Listing.{is_I}
use Rattle.step_model.specs.declared.step.Term.{Term}
use Rattle.fault_list.specs.FaultLines.{factor_text}

-- the letter of one term at a qubit, and the product of those of several terms
abbrev pub letter_here : Term → ℕ → Letter
letter_here term q = if term.qubit == q then term.letter else I

abbrev pub letter_in : List Term → ℕ → Letter
letter_in [] q = I
letter_in (term ∷ terms) q = letter_product (letter_here term q) (letter_in terms q)

-- whether letters stand at ascending qubits, the first of them not below `from`, and none is I
abbrev pub is_ordered : ℕ → List Term → Bool
is_ordered from [] = true
is_ordered from (term ∷ terms) =
    if nat_lt term.qubit from then false else if is_I term.letter then false else is_ordered (term.qubit + 1) terms

-- the factors of letters at qubits in their order, each after `*`
abbrev pub starred_factors : List Term → List ℕ
starred_factors terms = flat_map (λ (term : Term). codes "*" ++ factor_text term.qubit term.letter) terms
