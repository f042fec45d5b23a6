-- A pass over what a circuit declares: which instructions it goes over, how many records come before each, and what is
-- behind it. (Stim's gate reference, github.com/quantumlib/Stim, doc/gates.md; that one pass goes over both is this
-- project's own.)
use Rattle.std.specs.Prelude.{◌≡◌, ◌+◌, ℕ, Bool, true, false, List, [], ◌∷◌, ◌++◌, length}
use Rattle.cursor.specs.Places.{StandsIn, before_of}
use Rattle.cursor.specs.declared.cursor.Cursor.{Cursor}
use Rattle.step_model.specs.Listing.{Listing}
use Rattle.stim_parser.specs.declared.operation.Operation.{Operation}
use Rattle.stim_parser.specs.declared.operation.Operation.TheVariants.{Measurement, MeasurementReset, ProductMeasurement, DetectorDeclaration, ObservableInclude}
use Rattle.stim_parser.specs.declared.target.Target.{Target}
use Rattle.stim_parser.specs.Limits.{products_of}
use Rattle.stim_parser.specs.Verdicts.{Instruction}
use Rattle.circuit_walk.specs.Declarations.{AreDeclarations, Declared, operation_declares}
use Rattle.circuit_walk.specs.Programs.{KeptProgram}
use Rattle.circuit_walk.specs.declared.program.Text.{Text}
use Rattle.circuit_walk.specs.private.Held.{Holds}

-- ---- one instruction

-- whether instructions of an operation make records or declare something
abbrev pub is_declaring : Operation → Bool
is_declaring (Measurement l) = true
is_declaring (MeasurementReset l) = true
is_declaring ProductMeasurement = true
is_declaring DetectorDeclaration = true
is_declaring ObservableInclude = true
is_declaring operation = false

abbrev pub is_declarer : Instruction → Bool
is_declarer i = is_declaring i.operation

-- how many records an operation makes of these targets: one of each target of a measurement, a product being one
abbrev pub operation_records : Operation → List Target → ℕ
operation_records (Measurement l) targets = length targets
operation_records (MeasurementReset l) targets = length targets
operation_records ProductMeasurement targets = length (products_of targets)
operation_records operation targets = 0

abbrev pub record_count : Instruction → ℕ
record_count i = operation_records i.operation i.targets

-- what an instruction declares after r records
abbrev pub declared_by : ℕ → Instruction → List Declared
declared_by r i = operation_declares r i.operation i.arguments i.targets

-- ---- instructions, one after another

-- how many records they make
unfoldable pub counted : List Instruction → ℕ
counted [] = 0
counted (i ∷ is) = record_count i + counted is

-- what they declare, after r records
unfoldable pub declared_from : ℕ → List Instruction → List Declared
declared_from r [] = []
declared_from r (i ∷ is) = declared_by r i ++ declared_from (r + record_count i) is

-- ---- the pass

-- these are the next declarations of a program behind those that are done: one or none
pub record AreAhead (listing : Listing) (done next : List Declared) : Type 0 where
  pub rest : List Declared
  pub all : AreDeclarations listing (done ++ (next ++ rest))

-- a cursor stands among the instructions that the pass goes over, of which those before it make so many records
pub record IsDeclaring {A : Type 0} (program : KeptProgram) (text : Text A) (cursor : Cursor) (records : ℕ) : Type 0 where
  pub held : Holds program text
  pub stands : StandsIn is_declarer text.items.now.items cursor
  pub records_are : records ≡ counted (before_of is_declarer text.items.now.items cursor)
