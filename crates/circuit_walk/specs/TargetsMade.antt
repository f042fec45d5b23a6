-- What one instruction makes of detectors and observables. DETECTOR makes a detector, which lists the records that it
-- names, as often and in the order in which it names them; `rec[-k]` is the kth last record made before it. Its
-- coordinates are those that it states, each with the offset of its axis added. SHIFT_COORDS adds its numbers to the
-- offsets, axis by axis; an axis that no shift names has the offset 0, and axes that a detector doesn't state are left
-- out. OBSERVABLE_INCLUDE adds the records that it names to the observable of its number. (Stim's gate reference,
-- github.com/quantumlib/Stim, doc/gates.md, "DETECTOR", "SHIFT_COORDS", "OBSERVABLE_INCLUDE".)
use Rattle.std.specs.Prelude.{ℕ, ◌-◌, ◌==◌, Bool, false, if◌then◌else◌, ℤ, List, [], ◌∷◌, map}
use Rattle.stim_parser.specs.declared.operation.Operation.{Operation}
use Rattle.stim_parser.specs.declared.operation.Operation.TheVariants.{DetectorDeclaration, ObservableInclude, CoordinateShift}
use Rattle.stim_parser.specs.declared.target.Target.{Target}
use Rattle.stim_parser.specs.declared.target.Target.TheVariants.{Back}
use Rattle.stim_parser.specs.Numbers.{value_of, whole_value}
use Rattle.stim_parser.specs.Offsets.{shifted, moved}
use Rattle.circuit_walk.specs.Totals.{first_argument}

-- the record that a target names after r records
abbrev pub record_named : ℕ → Target → ℕ
record_named r (Back k) = r - k
record_named r target = 0

-- the records that targets name after r records
abbrev pub records_named : ℕ → List Target → List ℕ
records_named r targets = map (record_named r) targets

-- the detectors of an operation with these targets after r records: one or none
abbrev pub operation_detectors : ℕ → Operation → List Target → List (List ℕ)
operation_detectors r DetectorDeclaration targets = records_named r targets ∷ []
operation_detectors r operation targets = []

-- their coordinates, with this offset
abbrev pub operation_coordinates : List ℤ → Operation → List (List ℕ) → List (List ℤ)
operation_coordinates offset DetectorDeclaration arguments = moved offset (map whole_value arguments) ∷ []
operation_coordinates offset operation arguments = []

-- the offset after an operation with these arguments
abbrev pub offset_after : List ℤ → Operation → List (List ℕ) → List ℤ
offset_after offset CoordinateShift arguments = shifted offset (map whole_value arguments)
offset_after offset operation arguments = offset

-- whether an operation with these arguments adds to the observable k
abbrev pub adds_to : ℕ → Operation → List (List ℕ) → Bool
adds_to k ObservableInclude arguments = value_of (first_argument arguments) == k
adds_to k operation arguments = false

-- what it adds to it after r records
abbrev pub operation_adds : ℕ → ℕ → Operation → List (List ℕ) → List Target → List ℕ
operation_adds k r operation arguments targets = if adds_to k operation arguments then records_named r targets else []
