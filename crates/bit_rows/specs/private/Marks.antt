-- Marks of a list of words: one bit for each of the first 64 words. A bit that isn't set says that the word is 0; of a word
-- with its bit set, and of those past the first 64, nothing is said.
-- (This project's own.)
use Rattle.std.specs.Prelude.{◌≡◌, ◌<◌, ◌/◌, true, false, ℕ, List, slice_index}
use Rattle.bit_rows.specs.private.Words.{bit_of, bit_in, HoldsRow}

-- in a word whose mark isn't set no bit is set
pub record MarksOnes (marks : ℕ) (words : List ℕ) : Type 0 where
  pub blank : (place : ℕ) → place / 64 < 64 → bit_of marks (place / 64) ≡ false → bit_in words place ≡ false

-- a list of words holds a row, and these are marks of it
pub record KeepsRow (places marks : ℕ) (words : List ℕ) : Type 0 where
  pub held : HoldsRow places words
  pub marked : MarksOnes marks words

-- the noted words lie below an index, and are 0 in both lists
abbrev pub BlanksBelow : (noted : ℕ) (x z : List ℕ) (high : ℕ) → Type 0
BlanksBelow noted x z high =
    (k : ℕ) → k < 64 → bit_of noted k ≡ true → (k < high) × (slice_index x k ≡ 0) × (slice_index z k ≡ 0)
