-- The letters that 64 runs have at one qubit, as two words whose lanes are the bits x and z of a letter: I is (0, 0),
-- X (1, 0), Y (1, 1) and Z (0, 1). A list with two such words a qubit holds a Pauli word for each run. (Bit-sliced Pauli
-- frames, as in Stim's frame simulator: Gidney, Quantum 5, 497 (2021).)
use Rattle.std.specs.Prelude.{ℕ, Bool, if◌then◌else◌, List, map}
use Rattle.bit_rows.specs.Lanes.{lane_bit}
use Rattle.pauli_word.specs.declared.letter.Letter.{Letter}
use Rattle.pauli_word.specs.Bits.{letter_of}
use Rattle.pauli_word.specs.Letters.{letter_product}
use Rattle.frames.specs.declared.letters.LaneLetters.{LaneLetters}

-- the letter of run j
unfoldable pub letter_in : ℕ → LaneLetters → Letter
letter_in j letters = letter_of (lane_bit j letters.x) (lane_bit j letters.z)

-- the Pauli word of run j, a letter a qubit
abbrev pub word_in : ℕ → List LaneLetters → List Letter
word_in j letters = map (letter_in j) letters

-- a letter, multiplied by the letter a where b
abbrev pub times_where : Bool → Letter → Letter → Letter
times_where b a letter = if b then letter_product a letter else letter

-- I in each run
abbrev pub none_at : LaneLetters
none_at = record { x = 0; z = 0 }
