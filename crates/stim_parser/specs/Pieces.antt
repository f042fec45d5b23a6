-- The pieces of a text of targets: what stands between blanks, and each `*` a piece of its own.
-- (Stim's circuit format, github.com/quantumlib/Stim, doc/file_format_stim_circuit.md, "Syntax" and "Target Types".)
use Rattle.std.specs.Prelude.{ℕ, ◌==◌, Bool, true, ◌||◌, if◌then◌else◌, List, [], ◌∷◌}
use Rattle.std.specs.List.{onto_first}
use Rattle.stim_lexer.specs.Bytes.{is_blank}

-- `*`
abbrev pub is_star : ℕ → Bool
is_star b = b == 42

-- a piece that isn't `*` ends before a blank, before a `*` and at the end of the text
abbrev pub ends_piece : ℕ → Bool
ends_piece b = is_blank b || is_star b

-- whether a piece ends before this text
abbrev pub ends_here : List ℕ → Bool
ends_here [] = true
ends_here (b ∷ text) = ends_piece b

-- the pieces of a text
unfoldable pub pieces_of : List ℕ → List (List ℕ)
pieces_of [] = []
pieces_of (b ∷ text) =
    if is_blank b then pieces_of text
    else (if is_star b || ends_here text then (b ∷ []) ∷ pieces_of text else onto_first b (pieces_of text))
