-- The usual name of an operation reads as the keyword that does it.
use Rattle.std.proofs.Common.{◌≡◌, true, Some, refl}
use Rattle.std.proofs.lemmas.Bool.{false≢true}
use Rattle.pauli_word.specs.declared.letter.Letter.TheVariants as letter
use Rattle.gate_table.specs.declared.gate.Gate.{Gate}
use Rattle.gate_table.specs.declared.gate.Gate.TheVariants as gate
use Rattle.gate_table.specs.Names.{gate_named}
use Rattle.stim_parser.specs.declared.operation.Operation.{Operation}
use Rattle.stim_parser.specs.declared.operation.Operation.TheVariants.{Applies, Measurement, QubitReset, MeasurementReset, ProductMeasurement, PauliError, CorrelatedError, DetectorDeclaration, ObservableInclude, Tick, QubitCoordinates, CoordinateShift}
use Rattle.stim_parser.specs.declared.table.Keyword.TheVariants.{Does}
use Rattle.stim_parser.specs.Circuits.{operation_is_written}
use Rattle.stim_parser.specs.Instructions.{keyword_named}
use Rattle.stim_parser.specs.Written.{gate_name, operation_name}
use Rattle.stim_parser.proofs.LineCutLemmas.{IsName}

-- ---- gates

gate_found : (g : Gate) → gate_named (gate_name g) ≡ Some g
gate_found gate.I = refl
gate_found gate.X = refl
gate_found gate.Y = refl
gate_found gate.Z = refl
gate_found gate.H = refl
gate_found gate.HXY = refl
gate_found gate.HYZ = refl
gate_found gate.S = refl
gate_found gate.SDag = refl
gate_found gate.SqrtX = refl
gate_found gate.SqrtXDag = refl
gate_found gate.SqrtY = refl
gate_found gate.SqrtYDag = refl
gate_found gate.CXYZ = refl
gate_found gate.CZYX = refl
gate_found gate.CX = refl
gate_found gate.CY = refl
gate_found gate.CZ = refl
gate_found gate.XCX = refl
gate_found gate.XCY = refl
gate_found gate.XCZ = refl
gate_found gate.YCX = refl
gate_found gate.YCY = refl
gate_found gate.YCZ = refl
gate_found gate.Swap = refl
gate_found gate.ISwap = refl
gate_found gate.ISwapDag = refl
gate_found gate.SqrtXX = refl
gate_found gate.SqrtXXDag = refl
gate_found gate.SqrtYY = refl
gate_found gate.SqrtYYDag = refl
gate_found gate.SqrtZZ = refl
gate_found gate.SqrtZZDag = refl

is_gate_name : (g : Gate) → IsName (gate_name g)
is_gate_name gate.I = (refl, refl)
is_gate_name gate.X = (refl, refl)
is_gate_name gate.Y = (refl, refl)
is_gate_name gate.Z = (refl, refl)
is_gate_name gate.H = (refl, refl)
is_gate_name gate.HXY = (refl, refl)
is_gate_name gate.HYZ = (refl, refl)
is_gate_name gate.S = (refl, refl)
is_gate_name gate.SDag = (refl, refl)
is_gate_name gate.SqrtX = (refl, refl)
is_gate_name gate.SqrtXDag = (refl, refl)
is_gate_name gate.SqrtY = (refl, refl)
is_gate_name gate.SqrtYDag = (refl, refl)
is_gate_name gate.CXYZ = (refl, refl)
is_gate_name gate.CZYX = (refl, refl)
is_gate_name gate.CX = (refl, refl)
is_gate_name gate.CY = (refl, refl)
is_gate_name gate.CZ = (refl, refl)
is_gate_name gate.XCX = (refl, refl)
is_gate_name gate.XCY = (refl, refl)
is_gate_name gate.XCZ = (refl, refl)
is_gate_name gate.YCX = (refl, refl)
is_gate_name gate.YCY = (refl, refl)
is_gate_name gate.YCZ = (refl, refl)
is_gate_name gate.Swap = (refl, refl)
is_gate_name gate.ISwap = (refl, refl)
is_gate_name gate.ISwapDag = (refl, refl)
is_gate_name gate.SqrtXX = (refl, refl)
is_gate_name gate.SqrtXXDag = (refl, refl)
is_gate_name gate.SqrtYY = (refl, refl)
is_gate_name gate.SqrtYYDag = (refl, refl)
is_gate_name gate.SqrtZZ = (refl, refl)
is_gate_name gate.SqrtZZDag = (refl, refl)

-- ---- operations

pub is_name : (o : Operation) → IsName (operation_name o)
is_name (Applies g) = is_gate_name g
is_name (Measurement letter.I) = (refl, refl)
is_name (Measurement letter.X) = (refl, refl)
is_name (Measurement letter.Y) = (refl, refl)
is_name (Measurement letter.Z) = (refl, refl)
is_name (QubitReset letter.I) = (refl, refl)
is_name (QubitReset letter.X) = (refl, refl)
is_name (QubitReset letter.Y) = (refl, refl)
is_name (QubitReset letter.Z) = (refl, refl)
is_name (MeasurementReset letter.I) = (refl, refl)
is_name (MeasurementReset letter.X) = (refl, refl)
is_name (MeasurementReset letter.Y) = (refl, refl)
is_name (MeasurementReset letter.Z) = (refl, refl)
is_name (PauliError letter.I) = (refl, refl)
is_name (PauliError letter.X) = (refl, refl)
is_name (PauliError letter.Y) = (refl, refl)
is_name (PauliError letter.Z) = (refl, refl)
is_name ProductMeasurement = (refl, refl)
is_name CorrelatedError = (refl, refl)
is_name DetectorDeclaration = (refl, refl)
is_name ObservableInclude = (refl, refl)
is_name Tick = (refl, refl)
is_name QubitCoordinates = (refl, refl)
is_name CoordinateShift = (refl, refl)

pub keyword_found : (o : Operation) → operation_is_written o ≡ true → keyword_named (operation_name o) ≡ Some (Does o)
unfolding keyword_named
keyword_found (Applies g) h = rw (gate_found g) refl
keyword_found (Measurement letter.I) h = absurd (false≢true h)
keyword_found (Measurement letter.X) h = refl
keyword_found (Measurement letter.Y) h = refl
keyword_found (Measurement letter.Z) h = refl
keyword_found (QubitReset letter.I) h = absurd (false≢true h)
keyword_found (QubitReset letter.X) h = refl
keyword_found (QubitReset letter.Y) h = refl
keyword_found (QubitReset letter.Z) h = refl
keyword_found (MeasurementReset letter.I) h = absurd (false≢true h)
keyword_found (MeasurementReset letter.X) h = refl
keyword_found (MeasurementReset letter.Y) h = refl
keyword_found (MeasurementReset letter.Z) h = refl
keyword_found (PauliError letter.I) h = absurd (false≢true h)
keyword_found (PauliError letter.X) h = refl
keyword_found (PauliError letter.Y) h = refl
keyword_found (PauliError letter.Z) h = refl
keyword_found ProductMeasurement h = refl
keyword_found CorrelatedError h = refl
keyword_found DetectorDeclaration h = refl
keyword_found ObservableInclude h = refl
keyword_found Tick h = refl
keyword_found QubitCoordinates h = refl
keyword_found CoordinateShift h = refl
