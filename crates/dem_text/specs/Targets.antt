-- The targets of a line of an error model, as they are written. A detector is `D` and a number, an observable `L` and a
-- number, both letters in upper case; `^` alone is a separator, which doesn't change what an error flips; a number
-- alone says by how much detectors shift, or how often a block is repeated. Targets are cut as those of a circuit.
-- (Stim's detector error model format, github.com/quantumlib/Stim, doc/file_format_dem_detector_error_model.md, "Target
-- Types".)
use Rattle.std.specs.Prelude.{ℕ, ◌==◌, ◌&&◌, if◌then◌else◌, List, [], ◌∷◌, Option, None, Some, option_map}
use Rattle.std.specs.Option.{option_or}
use Rattle.stim_lexer.specs.Bytes.{is_empty}
use Rattle.stim_parser.specs.Numbers.{number_of}
use Rattle.stim_parser.specs.Pieces.{pieces_of}
use Rattle.stim_parser.specs.Targets.{each_of}
use Rattle.dem_text.specs.declared.target.Target.{Target}
use Rattle.dem_text.specs.declared.target.Target.TheVariants.{Plain, Detector, Observable, Separator}

-- a target that is known by its first byte: `D`, `L` or `^`
abbrev pub marked_of : List ℕ → Option Target
marked_of [] = None
marked_of (b ∷ text) =
    if b == 68 then option_map Detector (number_of text)
    else
    (if b == 76 then option_map Observable (number_of text)
    else (if b == 94 && is_empty text then Some Separator else None))

-- the target that a piece writes, in whichever form
unfoldable pub target_of : List ℕ → Option Target
target_of piece = option_or (option_map Plain (number_of piece)) (marked_of piece)

-- the targets of a text, where all can be read
unfoldable pub targets_in : List ℕ → Option (List Target)
targets_in text = each_of target_of (pieces_of text)
