-- The line that an instruction is written as: its name, its arguments in parentheses where it has some, joined by `, `, and
-- its targets, each after one space.
use Rattle.std.specs.Prelude.{ℕ, List, [], ◌∷◌, ◌++◌, codes, decimal}
use Rattle.std.specs.List.{flat_map}
use Rattle.stim_parser.specs.Written.{in_parentheses}
use Rattle.dem_text.specs.declared.operation.Operation.{Operation}
use Rattle.dem_text.specs.declared.operation.Operation.TheVariants.{PauliError, DetectorDeclaration, ObservableInclude, Shifts}
use Rattle.dem_text.specs.declared.target.Target.{Target}
use Rattle.dem_text.specs.declared.target.Target.TheVariants.{Plain, Detector, Observable, Separator}
use Rattle.dem_text.specs.Verdicts.{Instruction}

abbrev pub name_text : Operation → List ℕ
name_text PauliError = codes "error"
name_text DetectorDeclaration = codes "detector"
name_text ObservableInclude = codes "logical_observable"
name_text Shifts = codes "shift_detectors"

abbrev pub target_word : Target → List ℕ
target_word (Plain n) = decimal n
target_word (Detector d) = 68 ∷ decimal d
target_word (Observable k) = 76 ∷ decimal k
target_word Separator = 94 ∷ []

abbrev pub target_words : List Target → List ℕ
target_words targets = flat_map (λ t. 32 ∷ target_word t) targets

-- what follows the name
abbrev after_name_text : List (List ℕ) → List Target → List ℕ
after_name_text arguments targets = in_parentheses arguments ++ target_words targets

abbrev pub instruction_line : Operation → List (List ℕ) → List Target → List ℕ
instruction_line operation arguments targets = name_text operation ++ after_name_text arguments targets

abbrev pub instruction : ℕ → Operation → List (List ℕ) → List Target → Instruction
instruction number operation arguments targets =
    record {
      line = number;
      operation = operation;
      arguments = arguments;
      targets = targets;
    }
