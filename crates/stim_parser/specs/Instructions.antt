-- The instructions of a circuit: their names, and for each which arguments and which targets it takes. Names are
-- compared without regard to case. Some names of the format are known and left out of this profile. (Stim's gate
-- reference, github.com/quantumlib/Stim, doc/gates.md: the titles, "Alternate name", "Parens Arguments" and "Targets";
-- which names are left out is this project's choice.)
use Rattle.std.specs.Prelude.{ℕ, ◌==◌, Bool, if◌then◌else◌, List, [], ◌∷◌, Option, codes, option_map}
use Rattle.std.specs.Str.{str_eq_ignore_ascii_case}
use Rattle.std.specs.List.{list_any}
use Rattle.std.specs.Option.{option_or}
use Rattle.pauli_word.specs.declared.letter.Letter.TheVariants.{X, Y, Z}
use Rattle.gate_table.specs.declared.gate.Gate.{Gate}
use Rattle.gate_table.specs.declared.gate.Gate.TheVariants as gate
use Rattle.gate_table.specs.Images.{arity_of}
use Rattle.gate_table.specs.Names.{gate_named, named_in}
use Rattle.stim_parser.specs.declared.operation.Operation.{Operation}
use Rattle.stim_parser.specs.declared.operation.Operation.TheVariants.{Applies, Measurement, QubitReset, MeasurementReset, ProductMeasurement, PauliError, CorrelatedError, DetectorDeclaration, ObservableInclude, Tick, QubitCoordinates, CoordinateShift}
use Rattle.stim_parser.specs.declared.table.Keyword.{Keyword}
use Rattle.stim_parser.specs.declared.table.Keyword.TheVariants.{Does, Repeats}
use Rattle.stim_parser.specs.declared.forms.ArgumentForm.{ArgumentForm}
use Rattle.stim_parser.specs.declared.forms.ArgumentForm.TheVariants.{NoArguments, ProbabilityAtWill, OneProbability, WholeNumbers, Decimals, OneNumber}
use Rattle.stim_parser.specs.declared.forms.TargetForm.{TargetForm}
use Rattle.stim_parser.specs.declared.forms.TargetForm.TheVariants.{NoTargets, Qubits, QubitsInvertedAtWill, QubitPairs, PairsRecordFirst, PairsOneRecord, Paulis, Products, Records, Turns}

-- ---- the table

-- a gate of one qubit takes qubits, and one of two qubits takes pairs of them from the left; the first of a pair of CX
-- or CY, and either one of a pair of CZ, may be a record in place of a qubit
abbrev pub gate_targets : Gate → TargetForm
gate_targets gate.CX = PairsRecordFirst
gate_targets gate.CY = PairsRecordFirst
gate_targets gate.CZ = PairsOneRecord
gate_targets g = if arity_of g == 1 then Qubits else QubitPairs

-- the arguments that each keyword takes
abbrev pub argument_form : Keyword Operation → ArgumentForm
argument_form (Does (Measurement l)) = ProbabilityAtWill
argument_form (Does (MeasurementReset l)) = ProbabilityAtWill
argument_form (Does ProductMeasurement) = ProbabilityAtWill
argument_form (Does (PauliError l)) = OneProbability
argument_form (Does CorrelatedError) = OneProbability
argument_form (Does DetectorDeclaration) = WholeNumbers
argument_form (Does ObservableInclude) = OneNumber
argument_form (Does QubitCoordinates) = Decimals
argument_form (Does CoordinateShift) = WholeNumbers
argument_form keyword = NoArguments

-- the targets that each keyword takes
abbrev pub target_form : Keyword Operation → TargetForm
target_form (Does (Applies g)) = gate_targets g
target_form (Does (Measurement l)) = QubitsInvertedAtWill
target_form (Does (MeasurementReset l)) = QubitsInvertedAtWill
target_form (Does ProductMeasurement) = Products
target_form (Does (QubitReset l)) = Qubits
target_form (Does (PauliError l)) = Qubits
target_form (Does CorrelatedError) = Paulis
target_form (Does DetectorDeclaration) = Records
target_form (Does ObservableInclude) = Records
target_form (Does Tick) = NoTargets
target_form (Does QubitCoordinates) = Qubits
target_form (Does CoordinateShift) = NoTargets
target_form Repeats = Turns

-- ---- names

-- the names of keywords that are no gates, and their aliases
abbrev pub other_names : List (List ℕ × Keyword Operation)
other_names =
    (codes "M", Does (Measurement Z))
    ∷ (codes "MZ", Does (Measurement Z))
    ∷ (codes "MX", Does (Measurement X))
    ∷ (codes "MY", Does (Measurement Y))
    ∷ (codes "R", Does (QubitReset Z))
    ∷ (codes "RZ", Does (QubitReset Z))
    ∷ (codes "RX", Does (QubitReset X))
    ∷ (codes "RY", Does (QubitReset Y))
    ∷ (codes "MR", Does (MeasurementReset Z))
    ∷ (codes "MRZ", Does (MeasurementReset Z))
    ∷ (codes "MRX", Does (MeasurementReset X))
    ∷ (codes "MRY", Does (MeasurementReset Y))
    ∷ (codes "MPP", Does ProductMeasurement)
    ∷ (codes "X_ERROR", Does (PauliError X))
    ∷ (codes "Y_ERROR", Does (PauliError Y))
    ∷ (codes "Z_ERROR", Does (PauliError Z))
    ∷ (codes "CORRELATED_ERROR", Does CorrelatedError)
    ∷ (codes "E", Does CorrelatedError)
    ∷ (codes "DETECTOR", Does DetectorDeclaration)
    ∷ (codes "OBSERVABLE_INCLUDE", Does ObservableInclude)
    ∷ (codes "TICK", Does Tick)
    ∷ (codes "QUBIT_COORDS", Does QubitCoordinates)
    ∷ (codes "SHIFT_COORDS", Does CoordinateShift)
    ∷ (codes "REPEAT", Repeats)
    ∷ []

-- what a name other than that of a gate names
abbrev pub other_named : List ℕ → Option (Keyword Operation)
other_named name = named_in other_names name

-- the keyword that a name names
unfoldable pub keyword_named : List ℕ → Option (Keyword Operation)
keyword_named name = option_or (option_map (λ g. Does (Applies g)) (gate_named name)) (other_named name)

-- the names of Stim's format that this profile leaves out: instructions of several exclusive errors, errors that depend
-- on others, and further gates and measurements
abbrev pub left_out_names : List (List ℕ)
left_out_names =
    codes "DEPOLARIZE1"
    ∷ codes "DEPOLARIZE2"
    ∷ codes "PAULI_CHANNEL_1"
    ∷ codes "PAULI_CHANNEL_2"
    ∷ codes "HERALDED_ERASE"
    ∷ codes "HERALDED_PAULI_CHANNEL_1"
    ∷ codes "ELSE_CORRELATED_ERROR"
    ∷ codes "I_ERROR"
    ∷ codes "II"
    ∷ codes "II_ERROR"
    ∷ codes "MXX"
    ∷ codes "MYY"
    ∷ codes "MZZ"
    ∷ codes "SPP"
    ∷ codes "SPP_DAG"
    ∷ codes "MPAD"
    ∷ codes "CXSWAP"
    ∷ codes "SWAPCX"
    ∷ codes "CZSWAP"
    ∷ codes "SWAPCZ"
    ∷ codes "H_NXY"
    ∷ codes "H_NXZ"
    ∷ codes "H_NYZ"
    ∷ codes "C_NXYZ"
    ∷ codes "C_XNYZ"
    ∷ codes "C_XYNZ"
    ∷ codes "C_NZYX"
    ∷ codes "C_ZNYX"
    ∷ codes "C_ZYNX"
    ∷ []

-- whether a name is known and left out
abbrev pub is_left_out : List ℕ → Bool
is_left_out name = list_any (λ left_out. str_eq_ignore_ascii_case left_out name) left_out_names
