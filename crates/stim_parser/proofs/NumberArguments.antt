-- The argument of an instruction that adds to an observable is a number.
use Rattle.std.proofs.Common.{◌≡◌, ℕ, Bool, true, false, not, ◌&&◌, cond, eqb, List, [], ◌∷◌, length, None, Some, refl, ap}
use Rattle.std.specs.Prelude.{⊤, slice_index_or}
use Rattle.std.specs.List.{list_all}
use Rattle.std.proofs.lemmas.Bool.{or_parts}
use Rattle.stim_parser.specs.declared.forms.ArgumentForm.TheVariants.{OneNumber}
use Rattle.stim_parser.specs.declared.table.Keyword.TheVariants.{Does}
use Rattle.stim_parser.specs.declared.operation.Operation.{Operation}
use Rattle.stim_parser.specs.declared.operation.Operation.TheVariants.{ObservableInclude}
use Rattle.stim_parser.specs.Circuits.{Fits}
use Rattle.stim_parser.specs.Coordinates.{first_number}
use Rattle.stim_parser.specs.Instructions.{argument_form}
use Rattle.stim_parser.specs.Limits.{has_wrong_arguments}
use Rattle.stim_parser.specs.Numbers.{is_number, value_of}
use Rattle.stim_parser.specs.Verdicts.{Instruction}

abbrev pub NamesNumber : Operation → List (List ℕ) → Type 0
NamesNumber ObservableInclude arguments = first_number arguments ≡ Some (value_of (slice_index_or arguments 0 []))
NamesNumber operation arguments = ⊤

first_holds : (a b : Bool) → not (a && b) ≡ false → a ≡ true
first_holds true b h = refl
first_holds false b h = absurd cc

of_number : (arguments : List (List ℕ)) → has_wrong_arguments OneNumber arguments ≡ false → first_number arguments ≡ Some (value_of (slice_index_or arguments 0 []))
unfolding has_wrong_arguments
of_number [] h = absurd cc
of_number (a ∷ arguments) h =
    let parts = or_parts (not (eqb (length (a ∷ arguments)) 1)) (not (is_number a && list_all is_number arguments)) h in
    ap (λ (b : Bool). cond b (Some (value_of a)) None) (first_holds (is_number a) (list_all is_number arguments) parts.1)

of_form : (o : Operation) (arguments : List (List ℕ)) → has_wrong_arguments (argument_form (Does o)) arguments ≡ false → NamesNumber o arguments
of_form ObservableInclude arguments h = of_number arguments h
of_form o arguments h = tt

pub names_number : (i : Instruction) → Fits i → NamesNumber i.operation i.arguments
names_number i fits = of_form i.operation i.arguments fits.arguments
