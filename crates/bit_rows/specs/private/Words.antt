-- A row kept in words of 64 bits: place i is bit i % 64 of word i / 64, the lowest bit first. The bits of the last
-- word that no place uses are 0.
-- (This project's own.)
use Rattle.std.specs.Prelude.{◌≡◌, ◌<◌, ◌≤◌, ◌==◌, Bool, false, ℕ, ◌+◌, ◌/◌, ◌%◌, ◌^◌, List, map, length, slice_index}
use Rattle.std.specs.Int.{bit_at}
use Rattle.std.specs.List.{range_with_len}

-- whether bit j of a word is set
unfoldable pub bit_of : ℕ → ℕ → Bool
bit_of word j = bit_at word j == 1

-- whether the bit at a place of a list of words is set
unfoldable pub bit_in : List ℕ → ℕ → Bool
bit_in words place = bit_of (slice_index words (place / 64)) (place % 64)

-- the number of words for a number of places
abbrev pub words_for : ℕ → ℕ
words_for places = (places + 63) / 64

-- the bits at the first places of a list of words
unfoldable pub row_of : ℕ → List ℕ → List Bool
row_of places words = map (bit_in words) (range_with_len 0 places)

-- a list of words holds a row of at most 2 ^ 64 - 1 places: it has as many words as the row needs, and no bit is set past the row's places
pub record HoldsRow (places : ℕ) (words : List ℕ) : Type 0 where
  pub fits : places < 2 ^ 64
  pub count : length words ≡ words_for places
  pub blank : (place : ℕ) → places ≤ place → bit_in words place ≡ false
