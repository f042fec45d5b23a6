-- The letters of a product, as the factors that a tableau takes.
use Rattle.std.specs.Prelude.{ℕ, List, map}
use Rattle.pauli_word.specs.declared.letter.Letter.{Letter}
use Rattle.step_model.specs.declared.step.Term.{Term}

abbrev pub factors_of : List Term → List (ℕ × Letter)
factors_of terms = map (λ term. (term.qubit, term.letter)) terms
