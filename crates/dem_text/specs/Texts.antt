-- What a whole text says: the items of its lines in their order, or its refusal. Lines that say nothing are passed over.
-- The first line that is refused is the text's refusal. Where there is none but a block is left open, the text is refused
-- by the line of the innermost open `repeat`. Lines are numbered from 1. (Stim's detector error model format,
-- github.com/quantumlib/Stim, doc/file_format_dem_detector_error_model.md; the order of refusals is this project's.)
use Rattle.std.specs.Prelude.{ℕ, List, Result}
use Rattle.step_model.specs.declared.fault.Fault.{Fault}
use Rattle.stim_lexer.specs.Texts as text
use Rattle.stim_lexer.specs.Trees as trees
use Rattle.stim_parser.specs.Judging.{format_of}
use Rattle.dem_text.specs.Verdicts.{Instruction, model_table}

-- an instruction, the start of a block with its line and turns, or the end of a block
abbrev pub Item : Type 0
Item = trees.Item Instruction

-- error models as a format of texts
abbrev pub models : text.Format Instruction
models = format_of model_table

-- the items of a text, or its refusal
abbrev pub items_in : List ℕ → Result (List Item) Fault
items_in bytes = text.items_in models bytes
