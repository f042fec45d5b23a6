-- The instructions that a tree reaches, of those that are chosen: the others are passed over. (Stim's circuit format,
-- github.com/quantumlib/Stim, doc/file_format_stim_circuit.md, "REPEAT blocks".)
use Rattle.std.specs.Prelude.{Bool, List, [], ◌∷◌, ◌++◌, if◌then◌else◌}
use Rattle.stim_lexer.specs.Trees.{Tree, Nothing, Then, Block}
use Rattle.stim_lexer.specs.Reached.{copies}

-- each chosen instruction each time that it is reached
abbrev pub chosen_in : {I : Type 0} → (I → Bool) → Tree I → List I
chosen_in w Nothing = []
chosen_in w (Then instruction rest) = if w instruction then instruction ∷ chosen_in w rest else chosen_in w rest
chosen_in w (Block line turns body rest) = copies turns (chosen_in w body) ++ chosen_in w rest
