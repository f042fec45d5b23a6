-- Lines read one after another; those that say nothing are passed over. A line with a bad byte stops the reading: it
-- stays the next one, and so is refused again. (Stim's circuit format, github.com/quantumlib/Stim,
-- doc/file_format_stim_circuit.md; the refusal is this project's.)
use Rattle.std.specs.Prelude.{ℕ, ◌+◌, if◌then◌else◌, List, [], ◌∷◌, Option, None, Some, Result, Ok, Err}
use Rattle.step_model.specs.declared.fault.Fault.{Fault}
use Rattle.step_model.specs.declared.fault.Cause.TheVariants as cause
use Rattle.stim_lexer.specs.declared.line.Line.{Line}
use Rattle.stim_lexer.specs.Lines.{says_nothing}
use Rattle.stim_lexer.specs.Cut.{Cut, cut_of, has_bad_byte}

-- the lines that are left of a text, and how many came before them
pub record Unread : Type 0 where
  pub read : ℕ
  pub lines : List (List ℕ)

-- the lines from the first one on that says something
unfoldable pub after_silent : ℕ → List (List ℕ) → Unread
after_silent read [] = record { read = read; lines = [] }
after_silent read (line ∷ lines) =
    if says_nothing line then after_silent (read + 1) lines else record { read = read; lines = line ∷ lines }

-- the number of a line, from 1, and the line cut
pub record Numbered : Type 0 where
  pub number : ℕ
  pub cut : Cut

-- the first of these lines, cut, or its refusal; none where there are no lines
abbrev pub first_found : ℕ → List (List ℕ) → Result (Option Numbered) Fault
first_found read [] = Ok None
first_found read (line ∷ lines) =
    if has_bad_byte line then Err (record { cause = cause.Byte; line = read + 1 })
    else Ok (Some (record { number = read + 1; cut = cut_of line }))

-- the lines after the first one, which is still there where it is refused
abbrev pub after_first_found : ℕ → List (List ℕ) → Unread
after_first_found read [] = record { read = read; lines = [] }
after_first_found read (line ∷ lines) =
    if has_bad_byte line then record { read = read; lines = line ∷ lines } else record { read = read + 1; lines = lines }

-- the next line that says something, or its refusal; none where no line is left that does
abbrev pub next_found : Unread → Result (Option Numbered) Fault
next_found unread =
    let left = after_silent unread.read unread.lines in first_found left.read left.lines

-- the lines that are left after that one
abbrev pub after_next : Unread → Unread
after_next unread =
    let left = after_silent unread.read unread.lines in after_first_found left.read left.lines

-- ---- what a reader answers

-- what a `Line` says, and what a reader's answer says
abbrev pub cut_in : Line → Cut
cut_in line =
    record {
      name = line.name.now;
      stays_open = line.stays_open;
      arguments = line.arguments.now;
      targets = line.targets.now;
      braces = line.braces;
    }

abbrev pub answered : Result (Option Line) Fault → Result (Option Numbered) Fault
answered (Ok None) = Ok None
answered (Ok (Some line)) = Ok (Some (record { number = line.number; cut = cut_in line }))
answered (Err fault) = Err fault
