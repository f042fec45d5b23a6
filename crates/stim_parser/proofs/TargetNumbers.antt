-- What the limits of an instruction's targets say of the numbers in them.
use Rattle.std.proofs.Common.{◌≡◌, ◌≤◌, Bool, true, false, List, [], ◌∷◌, refl}
use Rattle.std.specs.Prelude.{⊤, All}
use Rattle.std.specs.List.{list_any}
use Rattle.std.proofs.lemmas.Bool.{ltb-false, or_parts}
use Rattle.std.proofs.lemmas.List.Elements.{All-cons, All-nil}
use Rattle.gate_table.specs.declared.gate.Gate.{Gate}
use Rattle.gate_table.specs.declared.gate.Gate.TheVariants as gate
use Rattle.stim_parser.specs.declared.forms.TargetForm.{TargetForm}
use Rattle.stim_parser.specs.declared.forms.TargetForm.TheVariants.{Turns}
use Rattle.stim_parser.specs.declared.table.Keyword.TheVariants.{Does}
use Rattle.stim_parser.specs.declared.operation.Operation.{Operation}
use Rattle.stim_parser.specs.declared.operation.Operation.TheVariants.{Applies}
use Rattle.stim_parser.specs.declared.target.Target.{Target}
use Rattle.stim_parser.specs.declared.target.Target.TheVariants.{Plain, Inverted, Back, Pauli, Star}
use Rattle.stim_parser.specs.Circuits.{Fits}
use Rattle.stim_parser.specs.Instructions.{gate_targets, target_form}
use Rattle.stim_parser.specs.Limits.{has_target_beyond, is_target_beyond}
use Rattle.stim_parser.specs.Verdicts.{Instruction}

-- the numbers of a target are within their limits
abbrev pub IsWithin : Target → Type 0
IsWithin (Plain q) = q ≤ 4095
IsWithin (Inverted q) = q ≤ 4095
IsWithin (Pauli inverted l q) = q ≤ 4095
IsWithin (Back k) = k ≤ 999_999_999_999_999_999
IsWithin Star = ⊤

-- a test that no element passes, at each element
pub none_passes : {X : Type 0} (P : X → Type 0) (test : X → Bool) (xs : List X) → ((x : X) → test x ≡ false → P x) → list_any test xs ≡ false → All P xs
none_passes P test [] k h = All-nil P
none_passes P test (x ∷ xs) k h =
    let parts = or_parts (test x) (list_any test xs) h in
    All-cons P x xs (k x parts.0) (none_passes P test xs k parts.1)

abbrev is_turns : TargetForm → Bool
is_turns Turns = true
is_turns form = false

no_turns_of_gate : (g : Gate) → is_turns (gate_targets g) ≡ false
no_turns_of_gate gate.CX = refl
no_turns_of_gate g = refl

no_turns : (o : Operation) → is_turns (target_form (Does o)) ≡ false
no_turns (Applies g) = no_turns_of_gate g
no_turns o = refl

within : (form : TargetForm) (t : Target) → is_turns form ≡ false → is_target_beyond form t ≡ false → IsWithin t
within Turns t h k = absurd cc
within form (Plain q) h k = ltb-false 4095 q k
within form (Inverted q) h k = ltb-false 4095 q k
within form (Pauli inverted l q) h k = ltb-false 4095 q k
within form (Back n) h k = ltb-false 999_999_999_999_999_999 n k
within form Star h k = tt

pub targets_within : (i : Instruction) → Fits i → All IsWithin i.targets
unfolding has_target_beyond
targets_within i fits =
    let form = target_form (Does i.operation) in
    none_passes IsWithin (is_target_beyond form) i.targets (λ t h. within form t (no_turns i.operation) h) fits.targets_within
