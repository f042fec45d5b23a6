-- The factors that letters make at successive qubits, and how they stand one after another: joined by `*`. (Pauli
-- targets joined by `*`: Stim's circuit format.)
use Rattle.std.specs.Prelude.{ℕ, ◌+◌, Bool, true, false, if◌then◌else◌, List, [], ◌∷◌, ◌++◌, codes}
use Rattle.std.specs.List.{flat_map, range_with_len}
use Rattle.pauli_word.specs.declared.letter.Letter.{Letter}
use Rattle.step_model.specs.Listing.{is_I}
use Rattle.step_model.specs.declared.step.Term.{Term}
use Rattle.fault_list.specs.FaultLines.{factor_text}
use Rattle.fault_list.specs.private.TermLetters.{letter_in}

-- the factor of a letter at a qubit as a list, empty where the letter is I
abbrev pub letter_factor : ℕ → Letter → List (List ℕ)
letter_factor q a = if is_I a then [] else factor_text q a ∷ []

-- those of letters at successive qubits, the first of them at q
abbrev pub letter_factors : ℕ → List Letter → List (List ℕ)
letter_factors q [] = []
letter_factors q (a ∷ letters) = letter_factor q a ++ letter_factors (q + 1) letters

-- those that terms make at n qubits from q on
abbrev pub term_factors : List Term → ℕ → ℕ → List (List ℕ)
term_factors terms q n = flat_map (λ i. letter_factor i (letter_in terms i)) (range_with_len q n)

-- whether there is none
abbrev pub is_none : List (List ℕ) → Bool
is_none [] = true
is_none (f ∷ fs) = false

-- factors, each after `*`
abbrev pub starred : List (List ℕ) → List ℕ
starred fs = flat_map (λ f. codes "*" ++ f) fs

-- factors joined by `*`
abbrev pub joined : List (List ℕ) → List ℕ
joined [] = []
joined (f ∷ fs) = f ++ starred fs

-- the same, where they are the first of a word or come after others
abbrev pub joined_on : Bool → List (List ℕ) → List ℕ
joined_on true fs = joined fs
joined_on false fs = starred fs
