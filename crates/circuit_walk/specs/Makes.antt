-- Whether the steps of an operation make records, collapses and faults, one each. (Stim's gate reference,
-- github.com/quantumlib/Stim, doc/gates.md.)
use Rattle.std.specs.Prelude.{ℕ, Bool, true, false, if◌then◌else◌}
use Rattle.stim_parser.specs.declared.operation.Operation.{Operation}
use Rattle.stim_parser.specs.declared.operation.Operation.TheVariants.{Measurement, QubitReset, MeasurementReset, ProductMeasurement, PauliError, CorrelatedError}

-- whether an operation's steps make records, collapses, faults each
abbrev pub makes_records : Operation → Bool
makes_records (Measurement l) = true
makes_records (MeasurementReset l) = true
makes_records ProductMeasurement = true
makes_records operation = false

abbrev pub makes_collapses : Operation → Bool
makes_collapses (QubitReset l) = true
makes_collapses operation = makes_records operation

abbrev pub makes_faults : Operation → Bool → Bool
makes_faults (PauliError l) flips = true
makes_faults CorrelatedError flips = true
makes_faults operation flips = if flips then makes_records operation else false

-- whether each step of an operation is a fault that applies letters
abbrev pub makes_errors : Operation → Bool
makes_errors (PauliError l) = true
makes_errors CorrelatedError = true
makes_errors operation = false

abbrev pub one_if : Bool → ℕ
one_if b = if b then 1 else 0
