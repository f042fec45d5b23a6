-- The first line of a text. (Stim's circuit format, github.com/quantumlib/Stim, doc/file_format_stim_circuit.md, "Syntax".)
use Rattle.std.specs.Prelude.{◌≡◌, ℕ, ◌<◌, List, ◌∷◌, ◌++◌, length, false}
use Rattle.std.specs.List.{before_first, list_any}
use Rattle.stim_lexer.specs.Bytes.{is_line_feed}
use Rattle.stim_lexer.specs.Lines.{lines_of}

-- the first line of a text, and what follows its line feed
pub record IsFirstLine (text line after : List ℕ) : Type 0 where
  pub lines : lines_of text ≡ line ∷ lines_of after
  pub cut : line ≡ before_first is_line_feed text
  pub one : list_any is_line_feed line ≡ false
  pub parts : 0 < length after → text ≡ line ++ 10 ∷ after
  pub less : length after < length text
