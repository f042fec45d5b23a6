-- The error model that a text writes, as a tree: instructions, and blocks with the number of their turns and what
-- stands in them. A tree and its text say the same items in the same order, and so no two trees have one text.
-- (Stim's detector error model format, github.com/quantumlib/Stim, doc/file_format_dem_detector_error_model.md,
-- "repeat".)
use Rattle.stim_lexer.specs.Trees as trees
use Rattle.dem_text.specs.Verdicts.{Instruction}

-- what stands in a model or in a block, from the first on: nothing; an instruction and the rest; or a block, with its line,
-- its turns and its body, and the rest
abbrev pub Tree : Type 0
Tree = trees.Tree Instruction
