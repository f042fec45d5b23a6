-- A target in one word: what it is in the four lowest bits, and its number in the sixty above.
-- (How it is kept is this project's own.)
use Rattle.std.specs.Prelude.{◌≡◌, ℕ, ◌+◌, ◌*◌, ◌/◌, ◌%◌, ◌==◌, ◌<◌, ◌^◌, nat_le, ⊤, if◌then◌else◌}
use Rattle.pauli_word.specs.declared.letter.Letter.{Letter}
use Rattle.pauli_word.specs.declared.letter.Letter.TheVariants.{I, X, Y, Z}
use Rattle.stim_parser.specs.declared.target.Target.{Target}
use Rattle.stim_parser.specs.declared.target.Target.TheVariants.{Plain, Inverted, Back, Pauli, Star}

-- the letter of a number below four
abbrev pub letter_in : ℕ → Letter
letter_in code = if code == 0 then I else if code == 1 then X else if code == 2 then Y else Z

-- its number
abbrev pub letter_code : Letter → ℕ
letter_code I = 0
letter_code X = 1
letter_code Y = 2
letter_code Z = 3

-- the target of a kind with a number
abbrev pub named : ℕ → ℕ → Target
named kind number =
    if kind == 0 then Plain number else if kind == 1 then Inverted number else if kind == 2 then Back number
    else if kind == 3 then Star else Pauli (nat_le 12 kind) (letter_in (kind % 4)) number

-- the target of a word
abbrev pub target_in : ℕ → Target
target_in word = named (word % 16) (word / 16)

-- the word of a target
abbrev pub word_of : Target → ℕ
word_of (Plain n) = n * 16
word_of (Inverted n) = n * 16 + 1
word_of (Back n) = n * 16 + 2
word_of (Pauli inverted l n) = n * 16 + ((if inverted then 12 else 8) + letter_code l)
word_of Star = 3

-- a word of a target
abbrev pub IsWord : ℕ → Type 0
IsWord word = word_of (target_in word) ≡ word

-- a target whose number has room in sixty bits
abbrev pub HasRoom : Target → Type 0
HasRoom (Plain n) = n < 2 ^ 60
HasRoom (Inverted n) = n < 2 ^ 60
HasRoom (Back n) = n < 2 ^ 60
HasRoom (Pauli inverted l n) = n < 2 ^ 60
HasRoom Star = ⊤
