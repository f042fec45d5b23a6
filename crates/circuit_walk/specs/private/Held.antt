-- What a walk goes over is what its program lists.
-- (This project's own.)
use Rattle.std.specs.Prelude.{◌≡◌, List, None}
use Rattle.stim_lexer.specs.Fitting.{IsWritten}
use Rattle.stim_lexer.specs.Flat.{tree_of}
use Rattle.stim_lexer.specs.Marked.{Marked}
use Rattle.step_model.specs.declared.chances.ChanceText.{ChanceText}
use Rattle.stim_parser.specs.Circuits.{Fits}
use Rattle.stim_parser.specs.Probabilities.{Keeps}
use Rattle.stim_parser.specs.Verdicts.{Instruction, circuit_table}
use Rattle.circuit_walk.specs.declared.program.Text.{Text}
use Rattle.circuit_walk.specs.declared.program.Totals.{Totals}
use Rattle.circuit_walk.specs.Made.{AreTotals}
use Rattle.circuit_walk.specs.Meaning.{listing_of}
use Rattle.circuit_walk.specs.Programs.{KeptProgram}
use Rattle.circuit_walk.specs.Refusals.{circuit_refusal}

-- these items with these texts and totals are a program's
pub record Held (program : KeptProgram) (read : Marked Instruction) (chances : List ChanceText) (totals : Totals) : Type 0 where
  pub circuit : program.circuit ≡ tree_of read.items
  pub listing : program.listing ≡ listing_of (tree_of read.items)
  pub chances_are : program.chances ≡ chances
  pub written : IsWritten Fits read.items
  pub kept : Keeps circuit_table chances read
  pub accepted : circuit_refusal (tree_of read.items) ≡ None
  pub totals_are : AreTotals (listing_of (tree_of read.items)) totals

-- so are those of a text
abbrev pub Holds : {A : Type 0} → KeptProgram → Text A → Type 0
Holds program text = Held program text.items.now text.chances.now text.totals
