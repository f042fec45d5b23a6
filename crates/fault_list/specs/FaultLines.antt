-- The list of a program's faults as text: a line for each fault in their order, with its number, the text of its
-- probability as it stands in the circuit and what it does, separated by single spaces; then the line `coins N`, N
-- being the number of collapses (the projective measurements in measurements and resets). What a fault does is a Pauli
-- word, the letter and qubit of each place that isn't I, qubits ascending, joined by `*`, and `I` where there is none;
-- or the record that it flips, as `rec[0]`. Numbers are in decimal. (Pauli targets joined by `*`: Stim's circuit
-- format. The list is this repository's own.)
use Rattle.std.specs.Prelude.{ℕ, List, [], ◌∷◌, ◌++◌, length, codes, decimal, if◌then◌else◌}
use Rattle.std.specs.List.{flat_map, range_with_len}
use Rattle.pauli_word.specs.declared.letter.Letter.{Letter}
use Rattle.pauli_word.specs.declared.letter.Letter.TheVariants.{I, X, Y, Z}
use Rattle.pauli_word.specs.Words.{letter_at}
use Rattle.step_model.specs.Listing.{Listing, Effect, Applies, Flips, effect_at, fault_at, word_of_terms, is_I}

-- a letter
abbrev pub letter_text : Letter → List ℕ
letter_text I = codes "I"
letter_text X = codes "X"
letter_text Y = codes "Y"
letter_text Z = codes "Z"

-- a letter at a qubit
abbrev pub factor_text : ℕ → Letter → List ℕ
factor_text q a = letter_text a ++ decimal q

-- the text of a qubit's letter as a list, empty where the letter is I
abbrev pub factor_at : List Letter → ℕ → List (List ℕ)
factor_at w q = if is_I (letter_at w q) then [] else factor_text q (letter_at w q) ∷ []

-- the texts of a word's letters that aren't I
abbrev pub factors : List Letter → List (List ℕ)
factors w = flat_map (factor_at w) (range_with_len 0 (length w))

-- factors joined by `*`, and `I` where there is none
abbrev pub product_text : List (List ℕ) → List ℕ
product_text [] = codes "I"
product_text (f ∷ fs) = f ++ flat_map (λ g. codes "*" ++ g) fs

-- a word
abbrev pub word_text : List Letter → List ℕ
word_text w = product_text (factors w)

-- a record
abbrev pub record_text : ℕ → List ℕ
record_text r = codes "rec[" ++ decimal r ++ codes "]"

-- what a fault does, on n qubits
abbrev pub effect_text : ℕ → Effect → List ℕ
effect_text n (Applies terms) = word_text (word_of_terms n terms)
effect_text n (Flips r) = record_text r

-- the line of the fault f, and the lines of all faults
abbrev pub fault_line : Listing → ℕ → List ℕ
fault_line program f =
    decimal f ++ codes " " ++ (fault_at program f).text ++ codes " " ++ effect_text program.qubits (effect_at program f) ++ codes "\n"

-- the lines of all faults
abbrev pub fault_lines : Listing → List ℕ
fault_lines program = flat_map (fault_line program) (range_with_len 0 (length program.faults))

-- the line of the number of collapses
abbrev pub coins_line : ℕ → List ℕ
coins_line collapses = codes "coins " ++ decimal collapses ++ codes "\n"

-- the list of a program's faults
abbrev pub list_text : Listing → List ℕ
list_text program = fault_lines program ++ coins_line program.collapses
