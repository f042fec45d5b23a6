-- A text is cut into lines at each line feed; what follows the last line feed is a line where it isn't empty. A line of
-- blanks, or of blanks and a comment, which is `#` and all that follows, says nothing. A line of `}` and blanks, with
-- or without a comment, closes a block. (Stim's circuit format, github.com/quantumlib/Stim,
-- doc/file_format_stim_circuit.md, "Syntax".)
use Rattle.std.specs.Prelude.{ℕ, Bool, ◌&&◌, if◌then◌else◌, List, [], ◌∷◌, drop}
use Rattle.std.specs.List.{list_all, onto_first, before_first}
use Rattle.stim_lexer.specs.Bytes.{is_line_feed, is_hash, is_blank, is_close_brace, is_empty, begins_with, after_blanks}

-- the lines of a text; none has a line feed of its own
unfoldable pub lines_of : List ℕ → List (List ℕ)
lines_of [] = []
lines_of (b ∷ text) = if is_line_feed b then [] ∷ lines_of text else onto_first b (lines_of text)

-- a line up to its first `#`, without the blanks in front
abbrev pub content_of : List ℕ → List ℕ
content_of line = after_blanks (before_first is_hash line)

-- whether a line has nothing but blanks before its comment or its end
unfoldable pub says_nothing : List ℕ → Bool
says_nothing line = is_empty (content_of line)

-- `}`, and nothing but blanks after it
abbrev pub is_closing : List ℕ → Bool
is_closing line = begins_with is_close_brace (content_of line) && list_all is_blank (drop 1 (content_of line))
