-- What detectors state and shifts add are at most 16 coordinates, each within its limit, and they can be read.
use Rattle.std.proofs.Common.{◌≡◌, ◌≤◌, ℕ, ℤ, Bool, true, false, not, ◌&&◌, ltb, List, [], ◌∷◌, length, map, None, Some, refl, ap, ap₂, arith}
use Rattle.std.specs.Prelude.{⊤, All, nat_abs, nat_le, if◌then◌else◌, unwrap_or}
use Rattle.std.specs.List.{list_all, list_any}
use Rattle.std.proofs.lemmas.Bool.{ltb-false, or_parts}
use Rattle.std.proofs.lemmas.List.Elements.{All-cons, All-nil}
use Rattle.stim_parser.proofs.WholeNumberLemmas.{magnitude_kept}
use Rattle.stim_parser.specs.declared.forms.ArgumentForm.TheVariants.{WholeNumbers}
use Rattle.stim_parser.specs.declared.table.Keyword.TheVariants.{Does}
use Rattle.stim_parser.specs.declared.operation.Operation.{Operation}
use Rattle.stim_parser.specs.declared.operation.Operation.TheVariants.{DetectorDeclaration, CoordinateShift}
use Rattle.stim_parser.specs.Circuits.{Fits}
use Rattle.stim_parser.specs.Coordinates.{coordinates_in, is_coordinate, is_coordinate_beyond, is_whole_number}
use Rattle.stim_parser.specs.Instructions.{argument_form}
use Rattle.stim_parser.specs.Limits.{has_argument_beyond, has_wrong_arguments, is_argument}
use Rattle.stim_parser.specs.Numbers.{greatest_coordinate, magnitude_of, whole_value}
use Rattle.stim_parser.specs.Verdicts.{Instruction}

-- coordinates of magnitudes up to a number
abbrev pub AreUpTo : ℕ → List ℤ → Type 0
AreUpTo n zs = All (λ z. nat_abs z ≤ n) zs

abbrev pub most : ℕ
most = 1_000_000_000

pub record AreCoordinates (arguments : List (List ℕ)) : Type 0 where
  pub few : length arguments ≤ 16
  pub within : AreUpTo most (map whole_value arguments)
  pub read : unwrap_or (coordinates_in arguments) [] ≡ map whole_value arguments

abbrev pub HasCoordinates : Operation → List (List ℕ) → Type 0
HasCoordinates DetectorDeclaration arguments = AreCoordinates arguments
HasCoordinates CoordinateShift arguments = AreCoordinates arguments
HasCoordinates operation arguments = ⊤

values-within : (arguments : List (List ℕ)) → list_any is_coordinate_beyond arguments ≡ false → AreUpTo most (map whole_value arguments)
values-within [] h = All-nil (λ z. nat_abs z ≤ most)
values-within (text ∷ arguments) h =
    let parts = or_parts (is_coordinate_beyond text) (list_any is_coordinate_beyond arguments) h in
    All-cons (λ z. nat_abs z ≤ most) (whole_value text) (map whole_value arguments)
    (omega (arith, magnitude_kept text, ltb-false most (magnitude_of text) parts.0))
    (values-within arguments parts.1)

and_parts : (a b : Bool) → not (a && b) ≡ false → (a ≡ true) × (not b ≡ false)
and_parts true b h = (refl, h)
and_parts false b h = absurd cc

all_read : (arguments : List (List ℕ)) → not (list_all (is_argument WholeNumbers) arguments) ≡ false → list_any is_coordinate_beyond arguments ≡ false → list_all is_coordinate arguments ≡ true
all_read [] h k = refl
all_read (text ∷ arguments) h k =
    let parts = or_parts (is_coordinate_beyond text) (list_any is_coordinate_beyond arguments) k in
    let whole = and_parts (is_whole_number text) (list_all (is_argument WholeNumbers) arguments) h in
    ap₂ (λ (a b : Bool). a && b) (ap₂ (λ (a b : Bool). a && not b) whole.0 parts.0) (all_read arguments whole.1 parts.1)

few_read : (n : ℕ) → n ≤ 16 → nat_le n 16 ≡ true
few_read n h = grind arith

coordinates : (arguments : List (List ℕ)) → has_wrong_arguments WholeNumbers arguments ≡ false → has_argument_beyond greatest_coordinate WholeNumbers arguments ≡ false → AreCoordinates arguments
unfolding has_wrong_arguments coordinates_in
coordinates arguments h k =
    let parts = or_parts (ltb 16 (length arguments)) (not (list_all (is_argument WholeNumbers) arguments)) h in
    let few : length arguments ≤ 16 = ltb-false 16 (length arguments) parts.0 in
    record {
      few = few;
      within = values-within arguments k;
      read =
          ap (λ (b : Bool). unwrap_or (if b then Some (map whole_value arguments) else None) [])
          (ap₂ (λ (a b : Bool). a && b) (few_read (length arguments) few) (all_read arguments parts.1 k));
    }

of_form : (o : Operation) (arguments : List (List ℕ)) → has_wrong_arguments (argument_form (Does o)) arguments ≡ false → has_argument_beyond greatest_coordinate (argument_form (Does o)) arguments ≡ false → HasCoordinates o arguments
of_form DetectorDeclaration arguments h k = coordinates arguments h k
of_form CoordinateShift arguments h k = coordinates arguments h k
of_form o arguments h k = tt

pub has_coordinates : (i : Instruction) → Fits i → HasCoordinates i.operation i.arguments
has_coordinates i fits = of_form i.operation i.arguments fits.arguments fits.arguments_within
