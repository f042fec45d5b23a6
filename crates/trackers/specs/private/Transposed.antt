-- Words kept by qubit: for each qubit a column, the letters that all words have there. The words are the columns
-- transposed. A column is kept as two rows of bits, one bit a word: X in the letter, and Z in it. (Sensitivities taken
-- back over a circuit: Gidney, Quantum 5, 497 (2021). How they are kept here is this project's own.)
use Rattle.std.specs.Prelude.{◌≡◌, ◌≢◌, ◌<◌, ◌≤◌, ◌+◌, ◌*◌, ◌^◌, ℕ, Bool, ◌&&◌, List, [], ◌∷◌, ◌++◌, false, map, length, All, slice_index_or, slice_set}
use Rattle.std.specs.List.{range_with_len}
use Rattle.gate_table.specs.declared.gate.Gate.{Gate}
use Rattle.gate_table.specs.Images.{image2, inverse_of}
use Rattle.pauli_word.specs.declared.letter.Letter.{Letter}
use Rattle.pauli_word.specs.declared.letter.Letter.TheVariants.{I, X, Y, Z}
use Rattle.pauli_word.specs.Bits.{x_bit, z_bit, letters_of}
use Rattle.pauli_word.specs.Letters.{letter_product}
use Rattle.pauli_word.specs.Parity.{exclusive_or}
use Rattle.pauli_word.specs.Words.{letter_at, letters_product}
use Rattle.trackers.specs.Tracked.{Tracked}
use Rattle.step_model.specs.TargetSets.{members, row_of_set}

-- the word of target t
abbrev pub word_at : List (List Letter) → ℕ → List Letter
word_at columns t = map (λ column. letter_at column t) columns

-- the words of m targets
abbrev pub transposed : ℕ → List (List Letter) → List (List Letter)
transposed m columns = map (word_at columns) (range_with_len 0 m)

-- what is tracked, from the columns of m targets
abbrev pub tracked_of : ℕ → List (List Letter) → Tracked
tracked_of m columns = record { qubits = length columns; words = transposed m columns }

-- the column for which two lists of targets stand: those whose letter has an X in it, and those whose letter has a Z
abbrev pub column_of : ℕ → List ℕ → List ℕ → List Letter
column_of m x z = letters_of (row_of_set m x) (row_of_set m z)

-- these lists of a column, and those of columns
abbrev pub lists_of : List Letter → List (List ℕ)
lists_of column = members (map x_bit column) ∷ members (map z_bit column) ∷ []

abbrev pub lists_of_each : List (List Letter) → List (List ℕ)
lists_of_each [] = []
lists_of_each (column ∷ columns) = lists_of column ++ lists_of_each columns

-- each column is that for which its two lists stand
pub record AreRestored (lists : List (List ℕ)) (old new : List (List Letter)) : Type 0 where
  pub count : length new ≡ length old
  pub each : (k : ℕ) → k < length old → slice_index_or new k [] ≡ column_of (length (slice_index_or old k [])) (slice_index_or lists (2 * k) []) (slice_index_or lists (2 * k + 1) [])

-- the image of a letter, from the images of X and Z, signs left out
abbrev pub combined : Letter → Letter → Letter → Letter
combined x z I = I
combined x z X = x
combined x z Y = letter_product x z
combined x z Z = z

-- a row, plus another where b
abbrev pub xor_where : Bool → List Bool → List Bool → List Bool
xor_where b (p ∷ ps) (q ∷ qs) = exclusive_or p (b && q) ∷ xor_where b ps qs
xor_where b ps qs = ps

-- a row with the bit at t turned where b
abbrev pub flipped_where : Bool → ℕ → List Bool → List Bool
flipped_where b t row = slice_set row t (exclusive_or b (slice_index_or row t false))

-- a column with a letter multiplied in at a place, and at each place of a list
abbrev pub times_at : Letter → ℕ → List Letter → List Letter
times_at letter t column = slice_set column t (letter_product letter (letter_at column t))

abbrev pub times_each : Letter → List ℕ → List Letter → List Letter
times_each letter [] column = column
times_each letter (t ∷ ts) column = times_each letter ts (times_at letter t column)

-- the letters at the first and at the second of two qubits before a gate, from those after it
abbrev pub first_before : Gate → List Letter → List Letter → List Letter
first_before gate first second =
    letters_product (map (combined (image2 (inverse_of gate) X I).0 (image2 (inverse_of gate) Z I).0) first) (map (combined (image2 (inverse_of gate) I X).0 (image2 (inverse_of gate) I Z).0) second)

abbrev pub second_before : Gate → List Letter → List Letter → List Letter
second_before gate first second =
    letters_product (map (combined (image2 (inverse_of gate) X I).1 (image2 (inverse_of gate) Z I).1) first) (map (combined (image2 (inverse_of gate) I X).1 (image2 (inverse_of gate) I Z).1) second)

-- a word whose letters at two qubits are each multiplied by an image of the other
abbrev pub multiplied_at : ℕ → ℕ → Letter × Letter → Letter × Letter → List Letter → List Letter
multiplied_at a b to_first to_second w =
    slice_set (slice_set w a (letter_product (letter_at w a) (combined to_first.0 to_first.1 (letter_at w b)))) b
    (letter_product (letter_at w b) (combined to_second.0 to_second.1 (letter_at w a)))

-- the columns of two qubits, the letters of each multiplied by an image of those of the other
abbrev pub multiplied_columns : ℕ → ℕ → Letter × Letter → Letter × Letter → List (List Letter) → List (List Letter)
multiplied_columns a b to_first to_second columns =
    slice_set (slice_set columns a (letters_product (slice_index_or columns a []) (map (combined to_first.0 to_first.1) (slice_index_or columns b [])))) b
    (letters_product (slice_index_or columns b []) (map (combined to_second.0 to_second.1) (slice_index_or columns a [])))

-- a word whose letters at two qubits are each an image of the other
abbrev pub exchanged_at : ℕ → ℕ → Letter × Letter → Letter × Letter → List Letter → List Letter
exchanged_at a b to_first to_second w =
    slice_set (slice_set w a (combined to_first.0 to_first.1 (letter_at w b))) b (combined to_second.0 to_second.1 (letter_at w a))

-- the columns of two qubits, the letters of each an image of those of the other
abbrev pub exchanged_columns : ℕ → ℕ → Letter × Letter → Letter × Letter → List (List Letter) → List (List Letter)
exchanged_columns a b to_first to_second columns =
    slice_set (slice_set columns a (map (combined to_first.0 to_first.1) (slice_index_or columns b []))) b
    (map (combined to_second.0 to_second.1) (slice_index_or columns a []))

-- two rows as long as another
pub record AreAsLong (row made spare : List Bool) : Type 0 where
  pub made_long : length made ≡ length row
  pub spare_long : length spare ≡ length row

-- two places below n that differ
pub record ArePlaces (n a b : ℕ) : Type 0 where
  pub first : a < n
  pub second : b < n
  pub differ : a ≢ b

-- columns, spare columns and spare sets for m targets
pub record IsTransposed (m : ℕ) (columns : List (List Letter)) (first second : List Letter) (set spare : List Bool) : Type 0 where
  pub columns_long : All (λ column. length column ≡ m) columns
  pub first_long : length first ≡ m
  pub second_long : length second ≡ m
  pub set_long : length set ≡ m
  pub spare_long : length spare ≡ m
  pub few : m ≤ 2 ^ 32
