-- What is known of one target of an instruction: its qubit is within the limit, and it reaches no record before the first.
use Rattle.std.proofs.Common.{◌≡◌, ◌≤◌, ℕ, zero, suc, false, List, [], ◌∷◌, Some, subst, arith}
use Rattle.std.specs.Prelude.{All, slice_get}
use Rattle.std.proofs.lemmas.Bool.{ltb-false, or_parts}
use Rattle.stim_parser.specs.declared.target.Target.{Target}
use Rattle.stim_parser.specs.declared.target.Target.TheVariants.{Plain, Inverted, Back, Pauli, Star}
use Rattle.circuit_walk.specs.Refusals.{is_before_start, reaches_far}
use Rattle.stim_parser.specs.Circuits.{Fits}
use Rattle.stim_parser.specs.Verdicts.{Instruction}
use Rattle.stim_parser.proofs.TargetNumbers.{IsWithin, targets_within}
use Rattle.circuit_walk.specs.Small.{HasSmallQubit, back_of}

back_near : (r : ℕ) (t : Target) → is_before_start r t ≡ false → back_of t ≤ r
back_near r (Back k) h = ltb-false r k h
back_near r (Plain q) h = omega arith
back_near r (Inverted q) h = omega arith
back_near r (Pauli inverted l q) h = omega arith
back_near r Star h = omega arith

-- a target among those of which none reaches back before the first record
pub near_target : (r : ℕ) (ts : List Target) (k : ℕ) (t : Target) → reaches_far r ts ≡ false → slice_get ts k ≡ Some t → back_of t ≤ r
near_target r [] k t h got = cc
near_target r (x ∷ ts) zero t h got =
    let same : x ≡ t = cc in
    let parts = or_parts (is_before_start r x) (reaches_far r ts) h in
    subst (λ y. back_of y ≤ r) same (back_near r x parts.0)
near_target r (x ∷ ts) (suc k) t h got =
    let parts = or_parts (is_before_start r x) (reaches_far r ts) h in
    near_target r ts k t parts.1 got

qubit_within : (t : Target) → IsWithin t → HasSmallQubit t
qubit_within (Plain q) h = omega (arith, h)
qubit_within (Inverted q) h = omega (arith, h)
qubit_within (Pauli inverted l q) h = omega (arith, h)
qubit_within (Back n) h = omega arith
qubit_within Star h = omega arith

pub small_targets : (i : Instruction) → Fits i → All HasSmallQubit i.targets
small_targets i fits = λ k d lt. qubit_within _ (targets_within i fits k d lt)
