-- An error model kept flat, as its text writes it: a list of items, from which the tree is found again.
-- (Stim's detector error model format, github.com/quantumlib/Stim, doc/file_format_dem_detector_error_model.md,
-- "repeat".)
use Rattle.std.specs.Coded.{Coded}
use Rattle.stim_lexer.specs.Stored as stored
pub use Rattle.stim_lexer.specs.Flat.{tree_of}
pub use Rattle.stim_lexer.specs.Stored.{tree_of-items}
use Rattle.stim_lexer.specs.Stored.{coded_instruction}
pub use Rattle.stim_lexer.specs.Kept.{instruction_in, item_in}
use Rattle.dem_text.specs.contracts.operation.Operation as operation
use Rattle.dem_text.specs.contracts.target.Target as target
use Rattle.dem_text.specs.Trees.{Tree}
use Rattle.dem_text.specs.Verdicts.{Instruction}

-- how instructions and trees are stored, for the types whose values they are
abbrev pub coded_instructions : Coded Instruction
coded_instructions = coded_instruction operation.the_row.coded target.the_row.coded

abbrev pub coded_tree : Coded Tree
coded_tree = stored.coded_tree coded_instructions
