-- The program that a circuit makes, and what is required of one: its items write it, its instructions and blocks fit, it isn't
-- refused, and its totals are those of what it lists. (Stim's circuit format; how it is kept is this project's own.)
use Rattle.std.specs.Prelude.{◌≡◌, length, None}
use Rattle.step_model.specs.Listing.{Listing}
use Rattle.stim_lexer.specs.Fitting.{IsWritten}
use Rattle.stim_lexer.specs.Flat.{tree_of}
use Rattle.stim_parser.specs.Circuits.{Fits, IsCircuit}
use Rattle.stim_parser.specs.Probabilities.{Keeps}
use Rattle.stim_parser.specs.Trees.{Tree}
use Rattle.stim_parser.specs.Verdicts.{circuit_table}
use Rattle.circuit_walk.specs.declared.program.Parts.{Parts}
use Rattle.circuit_walk.specs.declared.program.Totals.{Totals}
use Rattle.circuit_walk.specs.Meaning.{listing_of}
use Rattle.circuit_walk.specs.Programs.{KeptProgram}
use Rattle.circuit_walk.specs.Refusals.{circuit_refusal}

-- the circuit that parts write
abbrev pub circuit_of : {A : Type 0} → Parts A → Tree
circuit_of parts = tree_of parts.read.items.items

-- the program that they make
abbrev pub kept_program : {A : Type 0} → Parts A → KeptProgram
kept_program parts = record { circuit = circuit_of parts; listing = listing_of (circuit_of parts); chances = parts.read.texts.items }

-- a circuit is accepted, and a program is what it lists
pub record IsAcceptedAs (circuit : Tree) (program : Listing) : Type 0 where
  pub built : IsCircuit circuit
  pub accepted : circuit_refusal circuit ≡ None
  pub listing : program ≡ listing_of circuit

-- these are the totals of a program
pub record AreTotals (program : Listing) (totals : Totals) : Type 0 where
  pub qubits : totals.qubits ≡ program.qubits
  pub records : totals.counts.records ≡ program.records
  pub collapses : totals.counts.collapses ≡ program.collapses
  pub faults : totals.counts.faults ≡ length program.faults
  pub steps : totals.steps ≡ length program.steps
  pub detectors : totals.detectors ≡ length program.detectors
  pub observables : totals.observables ≡ length program.observables

-- what is required of parts
pub record PartsFit {A : Type 0} (parts : Parts A) : Type 0 where
  pub written : IsWritten Fits parts.read.items.items
  pub kept : Keeps circuit_table parts.read.texts.items parts.read.items
  pub accepted : circuit_refusal (circuit_of parts) ≡ None
  pub totals : AreTotals (listing_of (circuit_of parts)) parts.totals
