-- The program for which a circuit's text stands, or why the text is refused: by its first line that is refused, or by
-- what its circuit as a whole takes. (Stim's circuit format, github.com/quantumlib/Stim,
-- doc/file_format_stim_circuit.md.)
use Rattle.std.specs.Prelude.{ℕ, List, Result}
use Rattle.step_model.specs.declared.fault.Fault.{Fault}
use Rattle.step_model.specs.Listing.{Listing}
use Rattle.step_model.specs.Faults.{unless, ◌>>=◌}
use Rattle.stim_lexer.specs.Flat.{tree_of}
use Rattle.stim_parser.specs.Texts.{items_in}
use Rattle.stim_parser.specs.Trees.{Tree}
use Rattle.circuit_walk.specs.Meaning.{listing_of}
use Rattle.circuit_walk.specs.Refusals.{circuit_refusal}

-- the program of a tree, or its refusal
abbrev pub program_of : Tree → Result Listing Fault
program_of tree = unless (circuit_refusal tree) (listing_of tree)

-- the program of a text, or its refusal
abbrev pub program_in : List ℕ → Result Listing Fault
program_in text = items_in text >>= (λ items. program_of (tree_of items))
