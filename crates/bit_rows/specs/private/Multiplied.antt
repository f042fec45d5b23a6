-- What the loops that multiply a Pauli word by another do to their machine words. The x bits and the z bits of each are a
-- list of machine words.
-- (This project's own.)
use Rattle.std.specs.Prelude.{◌≡◌, ◌%◌, ℕ, List, length, slice_index, bit_xor}
use Rattle.bit_rows.specs.private.Marks.{MarksOnes}
use Rattle.bit_rows.specs.private.Spans.{XorsWithin}
use Rattle.bit_rows.specs.private.WordTotals.{words_phase}

-- all four lists have one length
pub record HaveOneLength (xa za xb zb : List ℕ) : Type 0 where
  pub za_long : length za ≡ length xa
  pub xb_long : length xb ≡ length xa
  pub zb_long : length zb ≡ length xa

-- marks of both lists of a word
pub record MarksBoth (marks : ℕ) (x z : List ℕ) : Type 0 where
  pub of_x : MarksOnes marks x
  pub of_z : MarksOnes marks z

-- the first n words are multiplied, whose powers of i are held
pub record MultipliesFirst (xa za xb zb new_xa new_za : List ℕ) (held n : ℕ) : Type 0 where
  pub power : held % 4 ≡ words_phase xa za xb zb n % 4
  pub x : XorsWithin xa xb new_xa 0 n
  pub z : XorsWithin za zb new_za 0 n

-- all words are multiplied, and this is the power of i
pub record Multiplies (xa za xb zb new_xa new_za : List ℕ) (answer : ℕ) : Type 0 where
  pub power : answer ≡ words_phase xa za xb zb (length xa) % 4
  pub x : (k : ℕ) → slice_index new_xa k ≡ bit_xor (slice_index xa k) (slice_index xb k)
  pub z : (k : ℕ) → slice_index new_za k ≡ bit_xor (slice_index za k) (slice_index zb k)
