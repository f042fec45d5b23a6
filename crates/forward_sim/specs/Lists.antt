-- What a user gives besides a circuit: a text of coins, one digit 0 or 1 for each collapse; and a list of numbers, which
-- is empty or has numbers in decimal digits joined by single commas. Zeros in front of a number change nothing.
-- (This project's own.)
use Rattle.std.specs.Prelude.{ℕ, ◌==◌, nat_lt, Bool, true, false, not, ◌&&◌, ◌||◌, if◌then◌else◌, List, [], ◌∷◌, length, map, replicate, Option, None, Some}
use Rattle.std.specs.Char.{is_ascii_digit}
use Rattle.std.specs.List.{list_all, list_any, range_with_len, slice_split}
use Rattle.step_model.specs.Probabilities.{digits_value}

-- whether a byte is the digit 0 or 1
abbrev pub is_zero_or_one : ℕ → Bool
is_zero_or_one byte = byte == 48 || byte == 49

-- whether a byte is the digit 1
abbrev pub is_one : ℕ → Bool
is_one byte = byte == 49

-- the coins that a text gives for this many collapses: none where it isn't one digit 0 or 1 for each
abbrev pub coins_of : ℕ → List ℕ → Option (List Bool)
coins_of collapses text =
    if length text == collapses && list_all is_zero_or_one text then Some (map is_one text) else None

-- whether a piece is one digit or more
abbrev pub is_number : List ℕ → Bool
is_number piece = nat_lt 0 (length piece) && list_all is_ascii_digit piece

-- whether a number is among these
abbrev pub is_among : List ℕ → ℕ → Bool
is_among numbers n = list_any (λ other. other == n) numbers

-- whether no number is there twice
abbrev pub is_distinct : List ℕ → Bool
is_distinct [] = true
is_distinct (n ∷ numbers) = not (is_among numbers n) && is_distinct numbers

-- for each number below count, whether it is among these
abbrev pub marks : ℕ → List ℕ → List Bool
marks count numbers = map (is_among numbers) (range_with_len 0 count)

-- the same, where each is below count and none is there twice
abbrev pub marks_of : ℕ → List ℕ → Option (List Bool)
marks_of count numbers =
    if list_all (λ n. nat_lt n count) numbers && is_distinct numbers then Some (marks count numbers) else None

-- for each number below count, whether a text lists it: none where the text isn't a list, or lists a number that isn't
-- below count, or one number twice
abbrev pub numbers_of : ℕ → List ℕ → Option (List Bool)
numbers_of count [] = Some (replicate count false)
numbers_of count (byte ∷ text) =
    let pieces = slice_split (λ b. b == 44) (byte ∷ text) in
    if list_all is_number pieces then marks_of count (map digits_value pieces) else None
