-- Numbers in a circuit's text. A number is digits, and may have zeros in front; a whole number is digits with an
-- optional `-` before them. Each number has a limit; that of qubits is smaller than most, and so is that of
-- coordinates. All numbers from 10^18 on are taken as one, which is beyond every limit. (Stim's circuit format,
-- github.com/quantumlib/Stim, doc/file_format_stim_circuit.md; the limits are this project's.)
use Rattle.std.specs.Prelude.{ℕ, ◌==◌, nat_lt, Bool, false, not, ◌&&◌, if◌then◌else◌, ℤ, pos, neg_ℤ, List, [], ◌∷◌, Option, None, Some, min}
use Rattle.std.specs.Char.{is_ascii_digit}
use Rattle.std.specs.List.{list_all}
use Rattle.step_model.specs.Probabilities.{digits_value}
use Rattle.stim_lexer.specs.Bytes.{is_empty}

-- one digit or more, and no other byte
abbrev pub is_number : List ℕ → Bool
is_number text = not (is_empty text) && list_all is_ascii_digit text

-- the number that digits write; all from 10^18 on are taken as one
abbrev pub value_of : List ℕ → ℕ
value_of digits = min (digits_value digits) 1_000_000_000_000_000_000

-- the number that a text writes, where it is one
abbrev pub number_of : List ℕ → Option ℕ
number_of text = if is_number text then Some (value_of text) else None

-- a text without a `-` in front, and whether it has one
abbrev pub without_minus : List ℕ → List ℕ
without_minus [] = []
without_minus (b ∷ text) = if b == 45 then text else b ∷ text

-- whether a text begins with `-`
abbrev pub has_minus : List ℕ → Bool
has_minus [] = false
has_minus (b ∷ text) = b == 45

-- the value of a whole number, without its sign and with it
abbrev pub magnitude_of : List ℕ → ℕ
magnitude_of text = value_of (without_minus text)

-- the value of a whole number
abbrev pub whole_value : List ℕ → ℤ
whole_value text = if has_minus text then neg_ℤ (pos (magnitude_of text)) else pos (magnitude_of text)

-- the greatest number of a qubit
abbrev pub greatest_qubit : ℕ
greatest_qubit = 4095

-- how many qubits a circuit may have, which is also the most that a product may name
abbrev pub most_qubits : ℕ
most_qubits = 4096

-- the greatest magnitude of a coordinate
abbrev pub greatest_coordinate : ℕ
greatest_coordinate = 1_000_000_000

-- the greatest of all other numbers
abbrev pub greatest_number : ℕ
greatest_number = 999_999_999_999_999_999

-- whether the number of a qubit is beyond its limit
abbrev pub is_qubit_beyond : ℕ → Bool
is_qubit_beyond q = nat_lt greatest_qubit q

-- whether any other number is beyond its limit
abbrev pub is_number_beyond : ℕ → Bool
is_number_beyond n = nat_lt greatest_number n
