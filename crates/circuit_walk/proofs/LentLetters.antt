-- The letters that a step lends: those of a part of the targets, as the instruction makes them there.
use Rattle.std.proofs.Common.{◌≡◌, ◌+◌, ◌-◌, ℕ, zero, suc, List, [], ◌∷◌, map, drop, take, None, Some, refl, sym, ap, ap₂, ◌∙◌, subst, arith, true}
use Rattle.std.specs.Prelude.{All, slice_get}
use Rattle.std.specs.List.{list_all, slice_range}
use Rattle.std.proofs.lemmas.Bool.{and_parts}
use Rattle.std.proofs.lemmas.List.Elements.{All-drop, All-take}
use Rattle.pauli_word.specs.declared.letter.Letter.{Letter}
use Rattle.step_model.specs.declared.step.Term.{Term}
use Rattle.step_model.specs.Listing.{Applies, ListedFault}
use Rattle.stim_parser.specs.declared.operation.Operation.{Operation}
use Rattle.stim_parser.specs.declared.operation.Operation.TheVariants.{PauliError, CorrelatedError}
use Rattle.stim_parser.specs.declared.table.Keyword.TheVariants.{Does}
use Rattle.stim_parser.specs.declared.target.Target.{Target}
use Rattle.stim_parser.specs.declared.target.Target.TheVariants.{Star}
use Rattle.stim_parser.specs.Instructions.{target_form}
use Rattle.stim_parser.specs.Limits.{are_of_form, is_pauli}
use Rattle.stim_parser.specs.Verdicts.{Instruction}
use Rattle.circuit_walk.specs.declared.instruction_steps.InstructionSteps.{InstructionSteps}
use Rattle.circuit_walk.specs.Before.{Before}
use Rattle.circuit_walk.specs.FaultsMade.{fault_with, faults_made}
use Rattle.circuit_walk.specs.Letters.{letters_named}
use Rattle.circuit_walk.specs.Meaning.{new_faults, new_records}
use Rattle.circuit_walk.specs.Small.{HasSmallQubit}
use Rattle.circuit_walk.specs.Targets.{term_at, term_of}
use Rattle.circuit_walk.specs.private.InstructionSteps.{AreStepsOf}
use Rattle.circuit_walk.specs.private.Names.{IsOf}
use Rattle.circuit_walk.proofs.StepLemmas.{of_each}
use Rattle.circuit_walk.proofs.TargetLemmas.{small_targets}

-- ---- qubits

pub small_of : (i : Instruction) (o : Operation) (ts : List Target) → IsOf i o ts → All HasSmallQubit ts
small_of i o ts of = subst (All HasSmallQubit) of.targets_are (small_targets i of.fits)

pub small_part : (ts : List Target) (a b : ℕ) → All HasSmallQubit ts → All HasSmallQubit (slice_range ts a b)
small_part ts a b h = All-take HasSmallQubit (b - a) (drop a ts) (All-drop HasSmallQubit a ts h)

-- ---- one target

one_slice : (ts : List Target) (at : ℕ) (t : Target) → slice_get ts at ≡ Some t → slice_range ts at (at + 1) ≡ t ∷ []
one_slice [] at t got = cc
one_slice (x ∷ ts) zero t got = let same : x ≡ t = cc in ap (λ y. y ∷ []) same
one_slice (x ∷ ts) (suc at) t got =
    let gap : suc at + 1 - suc at ≡ at + 1 - at = omega arith in
    ap (λ n. take n (drop at ts)) gap ∙ one_slice ts at t got

one_letter : (l : Letter) (t : Target) → letters_named (Some l) (t ∷ []) ≡ term_at l t ∷ []
one_letter l t = refl

-- the fault of a letter at a target
pub letter_fault_is : (n : ℕ) (b : Before) (i : Instruction) (l : Letter) (ts : List Target) (at : ℕ) (t : Target) → IsOf i (PauliError l) ts → slice_get ts at ≡ Some t → slice_get (new_faults n b i) at ≡ Some (fault_with i.arguments (Applies (letters_named (Some l) (slice_range ts at (at + 1)))))
letter_fault_is n b i l ts at t of got =
    ap (λ (faults : List ListedFault). slice_get faults at) (ap₂ (λ o targets. faults_made (new_records n b i) o i.arguments targets) of.operation_is of.targets_are)
    ∙ of_each (λ target. fault_with i.arguments (Applies (term_at l target ∷ []))) ts at t got
    ∙ ap (λ (terms : List Term). Some (fault_with i.arguments (Applies terms))) (sym (ap (letters_named (Some l)) (one_slice ts at t got) ∙ one_letter l t))

-- ---- all targets

-- no star stands among factors without a `!`
pauli_letters : (ts : List Target) → list_all is_pauli ts ≡ true → letters_named None ts ≡ map term_of ts
pauli_letters [] h = refl
pauli_letters (t ∷ []) h = refl
pauli_letters (t ∷ Star ∷ ts) h = absurd (star_first ts (and_parts (is_pauli t) (list_all is_pauli (Star ∷ ts)) h).1)
  where
    star_first : (ts : List Target) → list_all is_pauli (Star ∷ ts) ≡ true → ⊥
    star_first ts h = cc
pauli_letters (t ∷ u ∷ ts) h =
    ap (λ (terms : List Term). term_of t ∷ terms) (pauli_letters (u ∷ ts) (and_parts (is_pauli t) (list_all is_pauli (u ∷ ts)) h).1)

paulis_of : (ts : List Target) → are_of_form (target_form (Does CorrelatedError)) ts ≡ true → list_all is_pauli ts ≡ true
unfolding are_of_form
paulis_of ts h = h

pub product_fault_is : (n : ℕ) (b : Before) (i : Instruction) (ts : List Target) → IsOf i CorrelatedError ts → slice_get (new_faults n b i) 0 ≡ Some (fault_with i.arguments (Applies (letters_named None ts)))
product_fault_is n b i ts of =
    let form = sym (ap₂ (λ o targets. are_of_form (target_form (Does o)) targets) of.operation_is of.targets_are) ∙ of.fits.targets in
    ap (λ (faults : List ListedFault). slice_get faults 0) (ap₂ (λ o targets. faults_made (new_records n b i) o i.arguments targets) of.operation_is of.targets_are)
    ∙ ap (λ (terms : List Term). Some (fault_with i.arguments (Applies terms))) (sym (pauli_letters ts (paulis_of ts form)))

-- ---- the instruction

pub is_of : (i : Instruction) (s : InstructionSteps) (o : Operation) → AreStepsOf i s → s.operation ≡ o → IsOf i o s.targets.now
is_of i s o steps is =
    record { operation_is = sym steps.operation ∙ is; targets_are = sym steps.targets; fits = steps.fits }
