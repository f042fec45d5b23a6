-- What the loops over machine words count, bit by bit: the common ones of two lists of words, and the powers of i of
-- two Pauli words whose x bits and z bits are four lists of machine words.
-- (This project's own.)
use Rattle.std.specs.Prelude.{Bool, ℕ, ◌+◌, ◌*◌, ◌&&◌, if◌then◌else◌, List, slice_index}
use Rattle.bit_rows.specs.Rows.{letter_phase}
use Rattle.bit_rows.specs.private.Totals.{total}
use Rattle.bit_rows.specs.private.Words.{bit_of}

-- a bit as a number
abbrev pub value : Bool → ℕ
value b = if b then 1 else 0

-- the number of ones of a word
unfoldable pub word_ones : ℕ → ℕ
word_ones word = total (λ j. value (bit_of word j)) 64

-- the number of ones of the first n words
unfoldable pub ones_of : List ℕ → ℕ → ℕ
ones_of words n = total (λ k. word_ones (slice_index words k)) n

-- the number of bits that are set in both of two words
unfoldable pub word_common : ℕ → ℕ → ℕ
word_common first second = total (λ j. value (bit_of first j && bit_of second j)) 64

-- the same, over the first n words
unfoldable pub common_ones : (first second : List ℕ) → ℕ → ℕ
common_ones first second n = total (λ k. word_common (slice_index first k) (slice_index second k)) n

-- the sum of the powers of i over the 64 letters of one word
unfoldable pub word_phase : (xa za xb zb : ℕ) → ℕ
word_phase xa za xb zb = total (λ j. letter_phase (bit_of xa j) (bit_of za j) (bit_of xb j) (bit_of zb j)) 64

-- the same, over the first n words
unfoldable pub words_phase : (xa za xb zb : List ℕ) → ℕ → ℕ
words_phase xa za xb zb n =
    total (λ k. word_phase (slice_index xa k) (slice_index za k) (slice_index xb k) (slice_index zb k)) n

-- what two carry words hold: a power of i at each of 64 places, 1 for a bit of the first and 2 for a bit of the second
unfoldable pub carried : (ones twos : ℕ) → ℕ
carried ones twos = word_ones ones + 2 * word_ones twos

-- what the first n pairs of carry words hold
unfoldable pub carried_by : (ones twos : List ℕ) → ℕ → ℕ
carried_by ones twos n = total (λ k. carried (slice_index ones k) (slice_index twos k)) n
