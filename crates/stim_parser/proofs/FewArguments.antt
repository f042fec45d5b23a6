-- A detector and a shift of coordinates have no more than sixteen arguments.
use Rattle.std.proofs.Common.{◌≡◌, ◌≤◌, ℕ, false, not, ltb, List, length}
use Rattle.std.specs.Prelude.{⊤}
use Rattle.std.specs.List.{list_all}
use Rattle.std.proofs.lemmas.Bool.{ltb-false, or_parts}
use Rattle.stim_parser.specs.declared.forms.ArgumentForm.TheVariants.{WholeNumbers}
use Rattle.stim_parser.specs.declared.table.Keyword.TheVariants.{Does}
use Rattle.stim_parser.specs.declared.operation.Operation.{Operation}
use Rattle.stim_parser.specs.declared.operation.Operation.TheVariants.{DetectorDeclaration, CoordinateShift}
use Rattle.stim_parser.specs.Circuits.{Fits}
use Rattle.stim_parser.specs.Instructions.{argument_form}
use Rattle.stim_parser.specs.Limits.{has_wrong_arguments, is_argument}
use Rattle.stim_parser.specs.Verdicts.{Instruction}

abbrev pub HasFewCoordinates : Operation → List (List ℕ) → Type 0
HasFewCoordinates DetectorDeclaration arguments = length arguments ≤ 16
HasFewCoordinates CoordinateShift arguments = length arguments ≤ 16
HasFewCoordinates operation arguments = ⊤

few : (arguments : List (List ℕ)) → has_wrong_arguments WholeNumbers arguments ≡ false → length arguments ≤ 16
unfolding has_wrong_arguments
few arguments h = ltb-false 16 (length arguments) (or_parts (ltb 16 (length arguments)) (not (list_all (is_argument WholeNumbers) arguments)) h).0

of_form : (o : Operation) (arguments : List (List ℕ)) → has_wrong_arguments (argument_form (Does o)) arguments ≡ false → HasFewCoordinates o arguments
of_form DetectorDeclaration arguments h = few arguments h
of_form CoordinateShift arguments h = few arguments h
of_form o arguments h = tt

pub has_few_coordinates : (i : Instruction) → Fits i → HasFewCoordinates i.operation i.arguments
has_few_coordinates i fits = of_form i.operation i.arguments fits.arguments
