-- A program as it is kept: its circuit, what that lists, and the texts of its probabilities. And the value of a walk over its steps.
-- (Stim's circuit format; how it is kept is this project's own.)
use Rattle.std.specs.Prelude.{ℕ, List}
use Rattle.step_model.specs.Listing.{Listing}
use Rattle.step_model.specs.declared.chances.ChanceText.{ChanceText}
use Rattle.std.specs.Coded.{Coded}
use Rattle.stim_lexer.specs.Stored.{coded_instruction, coded_tree}
use Rattle.stim_parser.specs.contracts.operation.Operation as operation
use Rattle.stim_parser.specs.contracts.target.Target as target
use Rattle.stim_parser.specs.Trees.{Tree}

-- how a circuit is stored, for the types that are seen as it
abbrev pub coded_circuit : Coded Tree
coded_circuit = coded_tree (coded_instruction operation.the_row.coded target.the_row.coded)

-- a circuit and its program, and the texts of its probabilities with their bounds
pub record KeptProgram : Type 0 where
  pub circuit : Tree
  pub listing : Listing
  pub chances : List ChanceText

-- the program over whose steps a walk goes, and how many of these are before its place
pub record Walked : Type 0 where
  pub program : KeptProgram
  pub place : ℕ
