-- The text that writes a circuit: a line for each item of its tree, each ended by a line feed. An instruction is its name,
-- its arguments in parentheses where it has some, joined by `, `, and its targets, each after one space. A block is
-- `REPEAT`, its turns and `{`, then the lines of its body, and `}`. Each name is the usual one, and each number is written in
-- digits without zeros in front. (Stim's circuit format, github.com/quantumlib/Stim, doc/file_format_stim_circuit.md,
-- "Syntax" and "REPEAT blocks", and doc/gates.md: the titles; which of the texts that write a circuit is taken is this
-- project's choice.)
use Rattle.std.specs.Prelude.{◌≡◌, ⊤, ℕ, ◌+◌, true, false, List, [], ◌∷◌, ◌++◌, codes, decimal}
use Rattle.std.specs.List.{flat_map}
use Rattle.pauli_word.specs.declared.letter.Letter.{Letter}
use Rattle.pauli_word.specs.declared.letter.Letter.TheVariants.{X, Y}
use Rattle.gate_table.specs.declared.gate.Gate.{Gate}
use Rattle.gate_table.specs.declared.gate.Gate.TheVariants as gate
use Rattle.stim_parser.specs.declared.operation.Operation.{Operation}
use Rattle.stim_parser.specs.declared.operation.Operation.TheVariants.{Applies, Measurement, QubitReset, MeasurementReset, ProductMeasurement, PauliError, CorrelatedError, DetectorDeclaration, ObservableInclude, Tick, QubitCoordinates, CoordinateShift}
use Rattle.stim_parser.specs.declared.target.Target.{Target}
use Rattle.stim_parser.specs.declared.target.Target.TheVariants.{Plain, Inverted, Back, Pauli, Star}
use Rattle.stim_parser.specs.Trees.{Tree}
use Rattle.stim_lexer.specs.Trees.{Nothing, Then, Block}
use Rattle.stim_parser.specs.Verdicts.{Instruction}

-- ---- names

-- the usual name of a gate
abbrev pub gate_name : Gate → List ℕ
gate_name gate.I = codes "I"
gate_name gate.X = codes "X"
gate_name gate.Y = codes "Y"
gate_name gate.Z = codes "Z"
gate_name gate.H = codes "H"
gate_name gate.HXY = codes "H_XY"
gate_name gate.HYZ = codes "H_YZ"
gate_name gate.S = codes "S"
gate_name gate.SDag = codes "S_DAG"
gate_name gate.SqrtX = codes "SQRT_X"
gate_name gate.SqrtXDag = codes "SQRT_X_DAG"
gate_name gate.SqrtY = codes "SQRT_Y"
gate_name gate.SqrtYDag = codes "SQRT_Y_DAG"
gate_name gate.CXYZ = codes "C_XYZ"
gate_name gate.CZYX = codes "C_ZYX"
gate_name gate.CX = codes "CX"
gate_name gate.CY = codes "CY"
gate_name gate.CZ = codes "CZ"
gate_name gate.XCX = codes "XCX"
gate_name gate.XCY = codes "XCY"
gate_name gate.XCZ = codes "XCZ"
gate_name gate.YCX = codes "YCX"
gate_name gate.YCY = codes "YCY"
gate_name gate.YCZ = codes "YCZ"
gate_name gate.Swap = codes "SWAP"
gate_name gate.ISwap = codes "ISWAP"
gate_name gate.ISwapDag = codes "ISWAP_DAG"
gate_name gate.SqrtXX = codes "SQRT_XX"
gate_name gate.SqrtXXDag = codes "SQRT_XX_DAG"
gate_name gate.SqrtYY = codes "SQRT_YY"
gate_name gate.SqrtYYDag = codes "SQRT_YY_DAG"
gate_name gate.SqrtZZ = codes "SQRT_ZZ"
gate_name gate.SqrtZZDag = codes "SQRT_ZZ_DAG"

-- a letter; what a circuit writes is never an I
abbrev pub letter_byte : Letter → ℕ
letter_byte X = 88
letter_byte Y = 89
letter_byte letter = 90

-- the name of what acts in a basis: that of Z is the one without a letter
abbrev pub name_in_basis : List ℕ → Letter → List ℕ
name_in_basis name X = name ++ 88 ∷ []
name_in_basis name Y = name ++ 89 ∷ []
name_in_basis name letter = name

-- the usual name of an operation
abbrev pub operation_name : Operation → List ℕ
operation_name (Applies g) = gate_name g
operation_name (Measurement l) = name_in_basis (codes "M") l
operation_name (QubitReset l) = name_in_basis (codes "R") l
operation_name (MeasurementReset l) = name_in_basis (codes "MR") l
operation_name ProductMeasurement = codes "MPP"
operation_name (PauliError l) = letter_byte l ∷ codes "_ERROR"
operation_name CorrelatedError = codes "CORRELATED_ERROR"
operation_name DetectorDeclaration = codes "DETECTOR"
operation_name ObservableInclude = codes "OBSERVABLE_INCLUDE"
operation_name Tick = codes "TICK"
operation_name QubitCoordinates = codes "QUBIT_COORDS"
operation_name CoordinateShift = codes "SHIFT_COORDS"

-- ---- arguments

-- the arguments after the first, all of them, and all in parentheses
abbrev pub more_arguments : List (List ℕ) → List ℕ
more_arguments arguments = flat_map (λ a. codes ", " ++ a) arguments

abbrev pub joined_arguments : List (List ℕ) → List ℕ
joined_arguments [] = []
joined_arguments (a ∷ arguments) = a ++ more_arguments arguments

abbrev pub in_parentheses : List (List ℕ) → List ℕ
in_parentheses [] = []
in_parentheses (a ∷ arguments) = codes "(" ++ joined_arguments (a ∷ arguments) ++ codes ")"

-- ---- targets

-- a letter at a qubit
abbrev pub pauli_text : Letter → ℕ → List ℕ
pauli_text l q = letter_byte l ∷ decimal q

abbrev pub target_text : Target → List ℕ
target_text (Plain n) = decimal n
target_text (Inverted q) = codes "!" ++ decimal q
target_text (Back k) = codes "rec[-" ++ decimal k ++ codes "]"
target_text (Pauli true l q) = codes "!" ++ pauli_text l q
target_text (Pauli false l q) = pauli_text l q
target_text Star = codes "*"

abbrev pub targets_text : List Target → List ℕ
targets_text targets = flat_map (λ t. codes " " ++ target_text t) targets

-- ---- lines

abbrev pub instruction_text : Instruction → List ℕ
instruction_text i = operation_name i.operation ++ (in_parentheses i.arguments ++ targets_text i.targets)

-- the line that begins a block of this many turns
abbrev pub opening_text : ℕ → List ℕ
opening_text turns = codes "REPEAT " ++ decimal turns ++ codes " {"

-- the text of a circuit
unfoldable pub circuit_text : Tree → List ℕ
circuit_text Nothing = []
circuit_text (Then i rest) = instruction_text i ++ 10 ∷ circuit_text rest
circuit_text (Block line turns body rest) =
    opening_text turns ++ 10 ∷ (circuit_text body ++ 125 ∷ 10 ∷ circuit_text rest)

-- ---- the numbers of lines

-- how many lines the text of a circuit has
unfoldable pub line_count : Tree → ℕ
line_count Nothing = 0
line_count (Then i rest) = 1 + line_count rest
line_count (Block line turns body rest) = 2 + line_count body + line_count rest

abbrev pub at_line : ℕ → Instruction → Instruction
at_line number i =
    record {
      line = number;
      operation = i.operation;
      arguments = i.arguments;
      targets = i.targets;
    }

-- a tree with the numbers that its lines have in its text, of which so many came before
unfoldable pub with_lines_after : ℕ → Tree → Tree
with_lines_after before Nothing = Nothing
with_lines_after before (Then i rest) = Then (at_line (before + 1) i) (with_lines_after (before + 1) rest)
with_lines_after before (Block line turns body rest) =
    Block (before + 1) turns (with_lines_after (before + 1) body) (with_lines_after (before + 2 + line_count body) rest)

abbrev pub with_lines : Tree → Tree
with_lines tree = with_lines_after 0 tree

-- two trees are the same but for the numbers of their lines
abbrev pub AreAlike : Tree → Tree → Type 0
AreAlike Nothing Nothing = ⊤
AreAlike (Then i t) (Then j u) = (at_line j.line i ≡ j) × AreAlike t u
AreAlike (Block line turns body t) (Block line' turns' body' u) = (turns ≡ turns') × AreAlike body body' × AreAlike t u
AreAlike t u = ⊥
