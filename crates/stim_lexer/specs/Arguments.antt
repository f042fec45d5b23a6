-- The arguments of an instruction: what stands between the commas in its parentheses, without the blanks around it.
-- There are none where nothing but blanks stands there. (Stim's circuit format, github.com/quantumlib/Stim,
-- doc/file_format_stim_circuit.md, "Syntax".)
use Rattle.std.specs.Prelude.{ℕ, ◌==◌, ◌-◌, Bool, if◌then◌else◌, List, [], length, take, map, Option, None, Some}
use Rattle.std.specs.Borrow.{Bor}
use Rattle.std.specs.List.{slice_split, suffix_len}
use Rattle.stim_lexer.specs.Bytes.{is_blank, is_empty, after_blanks}

abbrev pub is_comma : ℕ → Bool
is_comma b = b == 44

-- a text without the blanks at its end, and without those at both ends
abbrev pub before_blanks : List ℕ → List ℕ
before_blanks text = take (length text - suffix_len is_blank text) text

abbrev pub trimmed : List ℕ → List ℕ
trimmed text = before_blanks (after_blanks text)

unfoldable pub arguments_in : List ℕ → List (List ℕ)
arguments_in text = if is_empty (after_blanks text) then [] else map trimmed (slice_split is_comma text)

-- the parts between the commas of a borrowed text; none where there is no text
abbrev pub parts_of : Option (Bor (List ℕ)) → List (List ℕ)
parts_of None = []
parts_of (Some text) = slice_split is_comma text.now
