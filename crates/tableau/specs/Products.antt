-- Pauli products: letters at qubits, which are multiplied.
use Rattle.std.specs.Prelude.{◌<◌, ℕ, All, List, [], ◌∷◌}
use Rattle.pauli_word.specs.declared.letter.Letter.{Letter}
use Rattle.pauli_word.specs.Words.{letters_product, lone_letter, no_letters}

-- the word on n qubits that these letters at qubits multiply to, its power of i left out
abbrev pub word_of_factors : ℕ → List (ℕ × Letter) → List Letter
word_of_factors n [] = no_letters n
word_of_factors n (factor ∷ factors) = letters_product (lone_letter n factor.0 factor.1) (word_of_factors n factors)

-- they are at qubits below n
abbrev pub AreWithin : ℕ → List (ℕ × Letter) → Type 0
AreWithin n factors = All (λ factor. factor.0 < n) factors
