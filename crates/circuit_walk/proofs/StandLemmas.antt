-- What is known of the steps of an instruction at a place, by their operation.
use Rattle.std.proofs.Common.{◌≡◌, ◌≢◌, ◌≤◌, ◌<◌, ◌+◌, ◌*◌, ◌%◌, ◌==◌, ℕ, zero, suc, Bool, true, false, if◌then◌else◌, List, length, refl, sym, ap, ap₂, ◌∙◌, subst, arith}
use Rattle.std.specs.Prelude.{All}
use Rattle.std.specs.List.{list_all}
use Rattle.std.proofs.lemmas.Bool.{eq-eqb, eqb-false, eqb-true}
use Rattle.gate_table.proofs.Arity.{two_unless_one}
use Rattle.gate_table.specs.declared.gate.Gate.{Gate}
use Rattle.gate_table.specs.declared.gate.Gate.TheVariants as gate
use Rattle.gate_table.specs.Images.{arity_of}
use Rattle.pauli_word.specs.declared.letter.Letter.{Letter}
use Rattle.stim_parser.specs.declared.operation.Operation.{Operation}
use Rattle.stim_parser.specs.declared.operation.Operation.TheVariants.{ProductMeasurement, QubitReset}
use Rattle.stim_parser.specs.declared.forms.TargetForm.TheVariants.{QubitPairs, Qubits}
use Rattle.stim_parser.specs.declared.table.Keyword.TheVariants.{Does}
use Rattle.stim_parser.specs.declared.target.Target.{Target}
use Rattle.stim_parser.specs.Instructions.{gate_targets, target_form}
use Rattle.stim_parser.specs.Limits.{are_of_form, are_products, has_wrong_count, is_plain, is_plain_or_inverted}
use Rattle.stim_parser.specs.Verdicts.{Instruction}
use Rattle.circuit_walk.specs.declared.instruction_steps.InstructionSteps.{InstructionSteps}
use Rattle.circuit_walk.specs.declared.step.Counts.{Counts}
use Rattle.circuit_walk.specs.Before.{Before}
use Rattle.circuit_walk.specs.Meaning.{new_steps}
use Rattle.circuit_walk.specs.Refusals.{reaches_far}
use Rattle.circuit_walk.specs.Small.{HasSmallQubit}
use Rattle.circuit_walk.specs.StepsMade.{operation_made}
use Rattle.circuit_walk.specs.private.InstructionSteps.{AreStepsOf, IsAt, Stands, end_of, has_argument}
use Rattle.circuit_walk.specs.Makes.{makes_faults, makes_records, one_if}
use Rattle.circuit_walk.specs.private.Taken.{measuring}
use Rattle.circuit_walk.proofs.TargetLemmas.{small_targets}

-- the targets of steps fit their operation
pub record FitOwn (s : InstructionSteps) (operation : Operation) : Type 0 where
  pub end : s.end ≡ end_of operation s.targets.now
  pub small : All HasSmallQubit s.targets.now
  pub form : are_of_form (target_form (Does operation)) s.targets.now ≡ true
  pub count : has_wrong_count (target_form (Does operation)) s.targets.now ≡ false

pub fit_own : (i : Instruction) (s : InstructionSteps) (operation : Operation) → AreStepsOf i s → s.operation ≡ operation → FitOwn s operation
fit_own i s operation steps is =
    let e : i.operation ≡ operation = sym steps.operation ∙ is in
    let t : i.targets ≡ s.targets.now = sym steps.targets in
    record {
      end = steps.end ∙ ap₂ end_of e t;
      small = subst (All HasSmallQubit) t (small_targets i steps.fits);
      form = sym (ap₂ (λ o ts. are_of_form (target_form (Does o)) ts) e t) ∙ steps.fits.targets;
      count = sym (ap₂ (λ o ts. has_wrong_count (target_form (Does o)) ts) e t) ∙ steps.fits.count;
    }

-- what comes behind the first k steps of an operation
pub record IsOwn (n : ℕ) (i : Instruction) (b : Before) (s : InstructionSteps) (c : Counts) (k : ℕ) (operation : Operation) : Type 0 where
  pub made : new_steps n b i ≡ operation_made n b operation i.arguments s.targets.now
  pub place : IsAt operation s.targets.now s.at k
  pub records : c.records ≡ b.records + k * one_if (makes_records operation)
  pub faults : c.faults ≡ b.faults + k * one_if (makes_faults operation s.flips)
  pub near : reaches_far b.records s.targets.now ≡ false
  pub flips : s.flips ≡ has_argument i
  pub fit : FitOwn s operation
  pub open fit use *

pub own_place : (i : Instruction) (s : InstructionSteps) (operation : Operation) (at k : ℕ) → AreStepsOf i s → s.operation ≡ operation → IsAt i.operation i.targets at k → IsAt operation s.targets.now at k
own_place i s operation at k steps is h =
    let e : i.operation ≡ operation = sym steps.operation ∙ is in
    subst (λ o. IsAt o s.targets.now at k) e (subst (λ ts. IsAt i.operation ts at k) (sym steps.targets) h)

pub place_of_own : (i : Instruction) (s : InstructionSteps) (operation : Operation) (at k : ℕ) → AreStepsOf i s → s.operation ≡ operation → IsAt operation s.targets.now at k → IsAt i.operation i.targets at k
place_of_own i s operation at k steps is h =
    let e : operation ≡ i.operation = sym is ∙ steps.operation in
    subst (λ ts. IsAt i.operation ts at k) steps.targets (subst (λ o. IsAt o s.targets.now at k) e h)

pub own : (n : ℕ) (i : Instruction) (b : Before) (s : InstructionSteps) (c : Counts) (k : ℕ) (operation : Operation) → Stands i b s c k → s.operation ≡ operation → IsOwn n i b s c k operation
own n i b s c k operation h is =
    let e : i.operation ≡ operation = sym h.steps.operation ∙ is in
    let t : i.targets ≡ s.targets.now = sym h.steps.targets in
    record {
      made = ap₂ (λ o ts. operation_made n b o i.arguments ts) e t;
      place = own_place i s operation s.at k h.steps is h.place;
      records = h.counts.records ∙ ap (λ o. b.records + k * one_if (makes_records o)) e;
      faults = h.counts.faults ∙ ap (λ o. b.faults + k * one_if (makes_faults o s.flips)) e;
      near = sym (ap (reaches_far b.records) t) ∙ h.near;
      flips = h.steps.flips;
      fit = fit_own i s operation h.steps is;
    }

-- ---- products

pub products_of_form : (ts : List Target) → are_of_form (target_form (Does ProductMeasurement)) ts ≡ true → are_products ts ≡ true
unfolding are_of_form
products_of_form ts h = h

-- ---- qubits alone

pub single_form : (g : Gate) (ts : List Target) → arity_of g ≡ 1 → are_of_form (gate_targets g) ts ≡ true → list_all is_plain ts ≡ true
unfolding are_of_form
single_form gate.CX ts one h = absurd (omega (arith, one))
single_form gate.CY ts one h = absurd (omega (arith, one))
single_form gate.CZ ts one h = absurd (omega (arith, one))
single_form g ts one h = sym (ap (λ (single : Bool). are_of_form (if single then Qubits else QubitPairs) ts) (eq-eqb (arity_of g) 1 one)) ∙ h

pub reset_form : (l : Letter) (ts : List Target) → are_of_form (target_form (Does (QubitReset l))) ts ≡ true → list_all is_plain ts ≡ true
unfolding are_of_form
reset_form l ts h = h

pub measured_form : (l : Letter) (reset : Bool) (ts : List Target) → are_of_form (target_form (Does (measuring reset l))) ts ≡ true → list_all is_plain_or_inverted ts ≡ true
unfolding are_of_form
measured_form l false ts h = h
measured_form l true ts h = h

-- ---- pairs

pub even_count : (g : Gate) (ts : List Target) → (arity_of g == 1) ≡ false → has_wrong_count (gate_targets g) ts ≡ false → (length ts % 2 == 1) ≡ false
unfolding has_wrong_count
even_count gate.CX ts h count = count
even_count gate.CY ts h count = count
even_count gate.CZ ts h count = count
even_count g ts h count =
    sym (ap (λ (one : Bool). has_wrong_count (if one then Qubits else QubitPairs) ts) h) ∙ count

pub two_of : (g : Gate) → (arity_of g == 1) ≡ false → arity_of g ≡ 2
two_of g h = two_unless_one g (eqb-false (arity_of g) 1 h)

-- where a pair begins, its second stands too
pub second_there : (g : Gate) (ts : List Target) (at k : ℕ) → (arity_of g == 1) ≡ false → has_wrong_count (gate_targets g) ts ≡ false → at ≡ arity_of g * k → at < length ts → at + 1 < length ts
second_there g ts at k h count place there =
    let two : at ≡ 2 * k = place ∙ ap (λ m. m * k) (two_of g h) in
    let odd : length ts % 2 ≢ 1 = eqb-false (length ts % 2) 1 (even_count g ts h count) in
    omega (arith, two, odd, there)

-- how many targets a step of a gate has, behind a place and before it
pub gate_behind : (g : Gate) (ts : List Target) (at k : ℕ) → has_wrong_count (gate_targets g) ts ≡ false → at ≡ arity_of g * k → at < length ts → at + arity_of g ≤ length ts
gate_behind g ts at k count place there = by_arity (arity_of g == 1) refl
  where
    by_arity : (one : Bool) → (arity_of g == 1) ≡ one → at + arity_of g ≤ length ts
    by_arity true h = omega (arith, eqb-true (arity_of g) 1 h, there)
    by_arity false h = omega (arith, two_of g h, second_there g ts at k h count place there)

pub gate_before : (g : Gate) (at k : ℕ) → at ≡ arity_of g * k → 0 < at → arity_of g ≤ at
gate_before g at zero place there = absurd (omega (arith, place, there))
gate_before g at (suc k) place there =
    let more : arity_of g * suc k ≡ arity_of g + arity_of g * k = omega arith in
    omega (arith, place, more)

pub next_of_gate : (g : Gate) (at k : ℕ) → at ≡ arity_of g * k → at + arity_of g ≡ arity_of g * (k + 1)
next_of_gate g at k place = omega (arith, place)
