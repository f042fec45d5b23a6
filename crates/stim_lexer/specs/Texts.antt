-- What a whole text says: the items of its lines in their order, or its refusal. Lines that say nothing are passed over.
-- The first line that is refused is the text's refusal. Where there is none but a block is left open, the text is refused
-- by the line of the innermost open block. Lines are numbered from 1. (Stim's circuit
-- format and detector error model format, "Syntax"; the order of refusals is this project's.)
use Rattle.std.specs.Prelude.{ℕ, ◌+◌, if◌then◌else◌, List, [], ◌∷◌, length, drop, Result, Ok, Err}
use Rattle.step_model.specs.declared.fault.Fault.{Fault}
use Rattle.step_model.specs.declared.fault.Cause.{Cause}
use Rattle.step_model.specs.declared.fault.Cause.TheVariants as cause
use Rattle.stim_lexer.specs.Cut.{Cut, cut_of, has_bad_byte}
use Rattle.stim_lexer.specs.Lines.{lines_of, says_nothing}
use Rattle.stim_lexer.specs.Trees.{Item, InstructionLine, BlockStart, BlockEnd}

-- what a line says: an instruction; the start of a block of this many turns; the end of a block; or a refusal
pub data Reading (I : Type 0) : Type 0 where
  Accepts : I → Reading I
  Opens : ℕ → Reading I
  Closes : Reading I
  Refuses : Cause → Reading I

-- a format of texts: what the cut line of a number says where this many blocks are open, and the cause of the refusal of a
-- block that is left open
pub record Format (I : Type 0) : Type 0 where
  pub reading_of : ℕ → ℕ → Cut → Reading I
  pub left_open : Cause

-- a refusal for this cause, by a line
abbrev pub refused : Cause → ℕ → Fault
refused c line = record { cause = c; line = line }

-- an item put before those that follow
abbrev pub before : {I : Type 0} → Item I → Result (List (Item I)) Fault → Result (List (Item I)) Fault
before item (Ok items) = Ok (item ∷ items)
before item (Err fault) = Err fault

-- the lines of the open blocks after a line, the innermost first
abbrev pub open_after : {I : Type 0} → ℕ → Reading I → List ℕ → List ℕ
open_after number (Opens turns) opened = number ∷ opened
open_after number Closes opened = drop 1 opened
open_after number reading opened = opened

-- what a line and what follows it make together
abbrev pub followed : {I : Type 0} → ℕ → Reading I → Result (List (Item I)) Fault → Result (List (Item I)) Fault
followed number (Accepts instruction) rest = before (InstructionLine instruction) rest
followed number (Opens turns) rest = before (BlockStart number turns) rest
followed number Closes rest = before BlockEnd rest
followed number (Refuses c) rest = Err (refused c number)

-- the end of a text
abbrev pub at_end : {I : Type 0} → Format I → List ℕ → Result (List (Item I)) Fault
at_end format [] = Ok []
at_end format (line ∷ opened) = Err (refused format.left_open line)

-- what the line of a number says in these open blocks: its bytes are judged before all else
abbrev pub line_reading : {I : Type 0} → Format I → List ℕ → ℕ → List ℕ → Reading I
line_reading format opened number line =
    if has_bad_byte line then Refuses cause.Byte else format.reading_of (length opened) number (cut_of line)

-- the items of lines, of which this many came before, in these open blocks
unfoldable pub items_from : {I : Type 0} → Format I → List ℕ → ℕ → List (List ℕ) → Result (List (Item I)) Fault
items_from format opened read [] = at_end format opened
items_from format opened read (line ∷ lines) =
    if says_nothing line then items_from format opened (read + 1) lines
    else
    (let reading = line_reading format opened (read + 1) line in
    followed (read + 1) reading (items_from format (open_after (read + 1) reading opened) (read + 1) lines))

-- the items of a text, or its refusal
abbrev pub items_in : {I : Type 0} → Format I → List ℕ → Result (List (Item I)) Fault
items_in format text = items_from format [] 0 (lines_of text)
