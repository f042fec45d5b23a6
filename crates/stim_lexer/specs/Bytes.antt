-- The bytes that cut a circuit's text, and ways to cut a text. The space, the tab and the carriage return are blanks;
-- only the line feed ends a line. Outside tags and comments each byte has to be a blank or printable. (Stim's circuit
-- format, github.com/quantumlib/Stim, doc/file_format_stim_circuit.md, "Syntax".)
use Rattle.std.specs.Prelude.{ℕ, ◌==◌, Bool, true, false, not, ◌||◌, List, [], ◌∷◌, drop}
use Rattle.std.specs.List.{position_or_len}
use Rattle.std.specs.Int.{is_in_range}

-- ---- bytes

-- the line feed
abbrev pub is_line_feed : ℕ → Bool
is_line_feed b = b == 10

-- the space, the tab and the carriage return
abbrev pub is_blank : ℕ → Bool
is_blank b = b == 32 || b == 9 || b == 13

-- `#`
abbrev pub is_hash : ℕ → Bool
is_hash b = b == 35

-- `(`
abbrev pub is_open_parenthesis : ℕ → Bool
is_open_parenthesis b = b == 40

-- `)`
abbrev pub is_close_parenthesis : ℕ → Bool
is_close_parenthesis b = b == 41

-- `[`
abbrev pub is_open_bracket : ℕ → Bool
is_open_bracket b = b == 91

-- `]`
abbrev pub is_close_bracket : ℕ → Bool
is_close_bracket b = b == 93

-- `{`
abbrev pub is_open_brace : ℕ → Bool
is_open_brace b = b == 123

-- `}`
abbrev pub is_close_brace : ℕ → Bool
is_close_brace b = b == 125

-- `{` or `}`
abbrev pub is_brace : ℕ → Bool
is_brace b = b == 123 || b == 125

-- a name ends at a blank, at `[`, `(`, a brace or `#`
abbrev pub ends_name : ℕ → Bool
ends_name b = is_blank b || is_open_bracket b || is_open_parenthesis b || is_brace b || is_hash b

-- a byte that is neither a blank nor printable
abbrev pub is_bad_byte : ℕ → Bool
is_bad_byte b = not (is_blank b || is_in_range 32 126 b)

-- ---- texts

-- whether a list has no element
abbrev pub is_empty : {X : Type 0} → List X → Bool
is_empty [] = true
is_empty (x ∷ xs) = false

-- a text from its first byte on that passes, or nothing where none does
abbrev pub from_first : (ℕ → Bool) → List ℕ → List ℕ
from_first p text = drop (position_or_len p text) text

-- whether the first byte of a text passes
abbrev pub begins_with : (ℕ → Bool) → List ℕ → Bool
begins_with p [] = false
begins_with p (b ∷ text) = p b

-- a text without the blanks in front
abbrev pub after_blanks : List ℕ → List ℕ
after_blanks text = from_first (λ b. not (is_blank b)) text
