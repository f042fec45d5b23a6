-- The lines of an error model by their names, and for each which arguments and which targets it takes. `error` takes one
-- probability, and detectors, observables and separators in any number and order; `detector` up to 16 whole numbers, and
-- detectors; `logical_observable` no arguments, and observables; `shift_detectors` up to 16 whole numbers, and one number
-- in digits; `repeat` no arguments, and one number in digits. Names are compared without regard to case.
-- (Stim's detector error model format, github.com/quantumlib/Stim, doc/file_format_dem_detector_error_model.md,
-- "Instruction Types".)
use Rattle.std.specs.Prelude.{ℕ, List, [], ◌∷◌, Option, codes}
use Rattle.stim_parser.specs.declared.forms.ArgumentForm.{ArgumentForm}
use Rattle.stim_parser.specs.declared.forms.ArgumentForm.TheVariants.{NoArguments, OneProbability, WholeNumbers}
use Rattle.stim_parser.specs.declared.table.Keyword.{Keyword}
use Rattle.stim_parser.specs.declared.table.Keyword.TheVariants.{Does, Repeats}
use Rattle.gate_table.specs.Names.{named_in}
use Rattle.dem_text.specs.declared.operation.Operation.{Operation}
use Rattle.dem_text.specs.declared.operation.Operation.TheVariants.{PauliError, DetectorDeclaration, ObservableInclude, Shifts}
use Rattle.dem_text.specs.declared.target.TargetForm.{TargetForm}
use Rattle.dem_text.specs.declared.target.TargetForm.TheVariants.{Effects, Detectors, Observables, OneNumber}

-- the arguments that each keyword takes
abbrev pub argument_form : Keyword Operation → ArgumentForm
argument_form (Does PauliError) = OneProbability
argument_form (Does DetectorDeclaration) = WholeNumbers
argument_form (Does ObservableInclude) = NoArguments
argument_form (Does Shifts) = WholeNumbers
argument_form Repeats = NoArguments

-- the targets that each keyword takes
abbrev pub target_form : Keyword Operation → TargetForm
target_form (Does PauliError) = Effects
target_form (Does DetectorDeclaration) = Detectors
target_form (Does ObservableInclude) = Observables
target_form (Does Shifts) = OneNumber
target_form Repeats = OneNumber

-- each name with what it names
abbrev pub names : List (List ℕ × Keyword Operation)
names =
    (codes "error", Does PauliError)
    ∷ (codes "detector", Does DetectorDeclaration)
    ∷ (codes "logical_observable", Does ObservableInclude)
    ∷ (codes "shift_detectors", Does Shifts)
    ∷ (codes "repeat", Repeats)
    ∷ []

-- the keyword that a name names
unfoldable pub keyword_named : List ℕ → Option (Keyword Operation)
keyword_named name = named_in names name
