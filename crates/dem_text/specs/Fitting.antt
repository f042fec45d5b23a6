-- What holds of an error model's tree: each instruction has the arguments and targets that its name takes, each block
-- has at least one turn, and blocks are nested no deeper than the limit. (Stim's detector error model format,
-- github.com/quantumlib/Stim, doc/file_format_dem_detector_error_model.md; the limits are this project's.)
use Rattle.stim_lexer.specs.Fitting as fitting
use Rattle.stim_parser.specs.Taken.{IsAsTaken}
use Rattle.dem_text.specs.Trees.{Tree}
use Rattle.dem_text.specs.Verdicts.{Instruction, model_table}

-- an instruction with arguments and targets as it takes them
abbrev pub Fits : Instruction → Type 0
Fits i = IsAsTaken model_table i

-- in a tree each instruction fits, and each block has a turn
abbrev pub AllFit : Tree → Type 0
AllFit tree = fitting.AllFit Fits tree

-- a tree that is accepted: its instructions fit, its blocks have turns, and it is not too deep
abbrev pub IsAccepted : Tree → Type 0
IsAccepted tree = fitting.IsBuilt Fits tree
