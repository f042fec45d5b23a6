-- How a line is cut into its parts. These are, from left to right and with any blanks between them: a name; a tag in
-- brackets; arguments in parentheses; targets; a brace that opens a block; a comment, which is `#` and all that
-- follows.
--
-- The name ends at a blank, at `[`, `(`, `{`, `}` or `#`. The tag comes next and ends at the first `]`; any byte may
-- stand in it, `#` and braces too, and it means nothing. Outside a tag each `#` begins a comment. The arguments end at
-- the first `)` before a comment. A tag or parentheses that don't end stay open: an open tag takes the rest of its
-- line. (Stim's circuit format, github.com/quantumlib/Stim, doc/file_format_stim_circuit.md, "Syntax".)
use Rattle.std.specs.Prelude.{ℕ, Bool, not, ◌&&◌, ◌||◌, if◌then◌else◌, List, [], drop}
use Rattle.std.specs.List.{list_any, list_all, before_first, after_first}
use Rattle.stim_lexer.specs.declared.line.Braces.{Braces}
use Rattle.stim_lexer.specs.declared.line.Braces.TheVariants.{NoBrace, OpeningLast, ClosingAlone, Misplaced}
use Rattle.stim_lexer.specs.Bytes.{ends_name, is_hash, is_open_parenthesis, is_close_parenthesis, is_open_bracket, is_close_bracket, is_open_brace, is_brace, is_blank, is_bad_byte, from_first, begins_with, after_blanks}
use Rattle.stim_lexer.specs.Lines.{is_closing}

-- ---- what stands in brackets or parentheses

-- whether a text begins with an opening byte, after any blanks
abbrev pub has_opening : (ℕ → Bool) → List ℕ → Bool
has_opening opening text = begins_with opening (after_blanks text)

-- what follows that byte
abbrev pub after_opening : List ℕ → List ℕ
after_opening text = drop 1 (after_blanks text)

-- what stands between the opening byte and the first closing one, or nothing where there is no opening one
abbrev pub in_brackets : (ℕ → Bool) → (ℕ → Bool) → List ℕ → List ℕ
in_brackets opening closing text = if has_opening opening text then before_first closing (after_opening text) else []

-- what follows the closing byte: nothing where there is none, and all where there is no opening one
abbrev pub after_brackets : (ℕ → Bool) → (ℕ → Bool) → List ℕ → List ℕ
after_brackets opening closing text = if has_opening opening text then after_first closing (after_opening text) else text

-- whether there is an opening byte and no closing one
abbrev pub leaves_open : (ℕ → Bool) → (ℕ → Bool) → List ℕ → Bool
leaves_open opening closing text = has_opening opening text && not (list_any closing (after_opening text))

-- ---- the name, and what follows it and the tag

-- the name of a line
abbrev pub name_of : List ℕ → List ℕ
name_of line = before_first ends_name (after_blanks line)

-- what follows the name
abbrev pub after_name : List ℕ → List ℕ
after_name line = from_first ends_name (after_blanks line)

-- whether the tag stays open
abbrev pub leaves_tag_open : List ℕ → Bool
leaves_tag_open line = leaves_open is_open_bracket is_close_bracket (after_name line)

-- what follows the name and the tag, up to the comment: nothing where the tag stays open
abbrev pub body_of : List ℕ → List ℕ
body_of line = before_first is_hash (after_brackets is_open_bracket is_close_bracket (after_name line))

-- ---- braces, outside tag and comment; a name has none

-- the first brace is `{`, and nothing but blanks follows it
abbrev pub has_opening_last : List ℕ → Bool
has_opening_last body =
    begins_with is_open_brace (from_first is_brace body) && list_all is_blank (drop 1 (from_first is_brace body))

-- `}` alone on its line; no brace; one `{`, as the last byte that isn't a blank; others
abbrev pub braces_in : Bool → List ℕ → Braces
braces_in closes body =
    if closes then ClosingAlone
    else (if not (list_any is_brace body) then NoBrace else (if has_opening_last body then OpeningLast else Misplaced))

-- the braces of a line
abbrev pub braces_of : List ℕ → Braces
braces_of line = braces_in (is_closing line) (body_of line)

-- ---- a line cut, and not yet judged

-- its name, whether its tag or its parentheses stay open, the text in the parentheses, the text of its targets, and its
-- braces
pub record Cut : Type 0 where
  pub name : List ℕ
  pub stays_open : Bool
  pub arguments : List ℕ
  pub targets : List ℕ
  pub braces : Braces

-- a line, cut
unfoldable pub cut_of : List ℕ → Cut
cut_of line =
    let body = body_of line in
    record {
      name = name_of line;
      stays_open = leaves_tag_open line || leaves_open is_open_parenthesis is_close_parenthesis body;
      arguments = in_brackets is_open_parenthesis is_close_parenthesis body;
      targets = before_first is_open_brace (after_brackets is_open_parenthesis is_close_parenthesis body);
      braces = braces_of line;
    }

-- a byte that is neither a blank nor printable stands outside tag and comment
unfoldable pub has_bad_byte : List ℕ → Bool
has_bad_byte line = list_any is_bad_byte (name_of line) || list_any is_bad_byte (body_of line)
