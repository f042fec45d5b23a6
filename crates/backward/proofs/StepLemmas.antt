-- One step gone back over: where a call failed, and where the step has no fault.
use Rattle.std.proofs.Common.{◌≡◌, ℕ, ◌+◌, ◌<◌, ◌∷◌, Bool, List, [], Option, Some, Result, Ok, Err, OnOk, drop, refl, ap, subst, sym, ◌∙◌, arith}
use Rattle.std.specs.Prelude.{All, slice_get}
use Rattle.std.proofs.lemmas.List.{drop_more}
use Rattle.std.proofs.lemmas.Option.{slice_get_within, get_or_from_slice_get}
use Rattle.std.proofs.lemmas.Result.{on_ok_weaker}
use Rattle.step_model.specs.declared.step.Term.{Term}
use Rattle.step_model.specs.ErrorModels.{ErrorLine}
use Rattle.step_model.specs.Chances.{chance_at}
use Rattle.step_model.specs.Listing.{Listing, ListedStep, Fault}
use Rattle.step_model.specs.WellFormed.{step_faults}
use Rattle.circuit_walk.specs.Programs.{KeptProgram}
use Rattle.circuit_walk.specs.declared.letters.Letters.{Letters}
use Rattle.circuit_walk.specs.Letters.{letters_in}
use Rattle.circuit_walk.specs.Named.{IsStepOf}
use Rattle.circuit_walk.specs.declared.step.FaultName.{FaultName}
use Rattle.circuit_walk.specs.declared.step.Step.TheVariants as step
use Rattle.backward.specs.declared.found.Found.{Found}
use Rattle.backward.specs.private.Passes.{FitsCollapse, IsPassed, IsStepAt, Stays}
use Rattle.backward.specs.private.Steps.{IsGoneOver, IsUndoing, IsUndone}
use Rattle.backward.specs.private.Stretches.{Gives, line_for, lines_at}
use Rattle.backward.proofs.HeldLines.{gives_on, gives_same, gives_step}
use Rattle.backward.proofs.PassSteps.{fault_line, gives_none, no_line, passed-fault}
use Rattle.trackers.specs.Tracked.{Tracked, anticommuting}

-- ---- what stays
pub stays_as : {A : Type 0} {old new : Found A} → new.settled ≡ old.settled → new.keeps ≡ old.keeps → new.known ≡ old.known → Stays old new
stays_as settled keeps known = record { settled = settled; keeps = keeps; known = λ e. known }

pub stays_on : {A : Type 0} (a b c : Found A) → Stays a b → Stays b c → Stays a c
stays_on a b c h k =
    record {
      settled = k.settled ∙ h.settled;
      keeps = k.keeps ∙ h.keeps;
      known = λ e. k.known (h.keeps ∙ e) ∙ h.known e;
    }

pub passed_as : {A : Type 0} {program : Listing} {k m : ℕ} {t u : Tracked} {found : Found A} → k ≡ m → t ≡ u → IsPassed program m u found → IsPassed program k t found
passed_as {program = program} {m = m} {t = t} {found = found} place words h = subst (λ k. IsPassed program k t found) (sym place) (subst (λ t. IsPassed program m t found) (sym words) h)

pub fits_after : (program : KeptProgram) {t u : Tracked} {sets new_sets : List (List Bool)} {terms : List Term} {reset rec : Option ℕ} {flip : Option FaultName}
    → t ≡ u → sets ≡ new_sets → FitsCollapse program t sets terms reset rec flip → FitsCollapse program u new_sets terms reset rec flip
fits_after program {u = u} {sets = sets} {terms = terms} {reset = reset} {rec = rec} {flip = flip} words same h =
    subst (λ new_sets. FitsCollapse program u new_sets terms reset rec flip) same (subst (λ t. FitsCollapse program t sets terms reset rec flip) words h)

on_ok_weaker_both : {T E P Q R : Type 0} (r : Result T E) → (P → Q → R) → OnOk r P → OnOk r Q → OnOk r R
on_ok_weaker_both (Ok x) f p q = f p q
on_ok_weaker_both (Err e) f p q = tt

-- ---- what a call that failed leaves
on_ok_failed : {T E : Type 0} (P : Type 0) {r : Result T E} {y : E} → r ≡ Err y → OnOk r P
on_ok_failed P e = subst (λ r. OnOk r P) (sym e) tt

pub undone_failed : {A T U E : Type 0} {tracked : T → Tracked} {program : Listing} {place : ℕ} {to : T} {old new : Found A} {r : Result U E} {y : E} → r ≡ Err y → Stays old new → IsUndone tracked program place to old new r
undone_failed e stays = record { passed = on_ok_failed _ e; stays = stays }

pub over_failed : {A T L U E : Type 0} {tracked : T → Tracked} {kept : L → KeptProgram} {holds : L → List ErrorLine → Type 0} {program : Listing} {place : ℕ} {to : T} {old new : Found A} {before after : L} {r : Result U E} {y : E}
    → r ≡ Err y → Stays old new → kept after ≡ kept before → IsGoneOver tracked kept holds program place to old new before after r
over_failed e stays store = record { undone = undone_failed e stays; lines = on_ok_failed _ e; store = store }

-- ---- a step that has no fault gives no line
pub on_ok_any : {T E P : Type 0} (r : Result T E) → P → OnOk r P
on_ok_any (Ok x) p = p
on_ok_any (Err e) p = tt

pub over_quiet : {A T L U E : Type 0} {tracked : T → Tracked} {kept : L → KeptProgram} {holds : L → List ErrorLine → Type 0} {program : Listing} {place : ℕ} {to : T} {old new : Found A} (lines : L) (r : Result U E) (step : ListedStep)
    → IsStepAt program place step → step_faults step ≡ [] → IsUndone tracked program place to old new r → IsGoneOver tracked kept holds program place to old new lines lines r
over_quiet {holds = holds} {program = program} {place = place} lines r step at none undone =
    record {
      undone = undone;
      lines = on_ok_any r (gives_none (holds lines) _ (no_line program place step at none));
      store = refl;
    }

-- ---- a step that stands at a place
pub step_at : (program : Listing) (place : ℕ) (step : ListedStep) → slice_get program.steps place ≡ Some step → IsStepAt program place step
step_at program place step there =
    let steps = program.steps in
    drop_more steps place step (slice_get_within steps place step there)
    ∙ ap (λ s. s ∷ drop (place + 1) steps) (get_or_from_slice_get steps place step step there)

-- ---- none gone over yet
pub undoing_none : {A T L : Type 0} {tracked : T → Tracked} {kept : L → KeptProgram} {holds : L → List ErrorLine → Type 0} (program walked : KeptProgram) (from place : ℕ) (to : T) (found : Found A) (lines : L)
    → walked ≡ program → from ≡ place → kept lines ≡ program → IsPassed program.listing place (tracked to) found → IsUndoing tracked kept holds walked from place to found found lines lines
undoing_none {tracked = tracked} {kept = kept} {holds = holds} program walked from place to found lines same here store passed =
    subst (λ (p : KeptProgram). IsUndoing tracked kept holds p from place to found found lines lines) (sym same)
    (record {
      below = omega (arith, here);
      passed = passed;
      stays = stays_as refl refl refl;
      lines = gives_same program.listing place from (holds lines) here;
      store = refl;
      program_is = store;
    })

-- ---- one more step gone over
module _ {A T L U E : Type 0} {tracked : T → Tracked} {kept : L → KeptProgram} {holds : L → List ErrorLine → Type 0} {program : KeptProgram} {from k : ℕ} {at to : T} {begun old new : Found A} {first before after : L} {r : Result U E}
    (h : IsUndoing tracked kept holds program from (k + 1) at begun old first before) (over : IsGoneOver tracked kept holds program.listing k to old new before after r) where
  pub stays_over : Stays begun new
  stays_over = stays_on begun old new h.stays over.undone.stays

  pub store_over : kept after ≡ kept first
  store_over = over.store ∙ h.store

  pub undoing_over : OnOk r (IsUndoing tracked kept holds program from k to begun new first after)
  undoing_over = on_ok_weaker_both r both over.undone.passed over.lines
    where
      both : IsPassed program.listing k (tracked to) new → Gives (holds before) (holds after) (lines_at program.listing k) → IsUndoing tracked kept holds program from k to begun new first after
      both passed gives =
          record {
            below = omega (arith, h.below);
            passed = passed;
            stays = stays_over;
            lines = gives_on program.listing k (k + 1) from (holds first) (holds before) (holds after) (omega arith) h.below h.lines (gives_step program.listing k (k + 1) (holds before) (holds after) refl gives);
            store = store_over;
            program_is = h.program_is;
          }

-- ---- a fault gone over, whose line was given

-- its letters are at qubits of the words
pub terms_at_qubits : (program : KeptProgram) (t : Tracked) (letters : Letters) (terms : List Term) → t.qubits ≡ program.listing.qubits → letters_in letters ≡ terms → All (λ term. term.qubit < program.listing.qubits) (letters_in letters) → All (λ term. term.qubit < t.qubits) terms
terms_at_qubits program t letters terms qubits is fits = subst (All (λ term. term.qubit < t.qubits)) is (subst (λ n. All (λ term. term.qubit < n) (letters_in letters)) (sym qubits) fits)

pub fault_over : {A T L U E : Type 0} {tracked : T → Tracked} {kept : L → KeptProgram} {holds : L → List ErrorLine → Type 0} (program : KeptProgram) {place : ℕ} {from : Tracked} {to : T} {old new : Found A} {before after : L} {r : Result U E} (name : FaultName) (letters : Letters)
    → IsStepAt program.listing place (Fault name.number) → IsStepOf program (step.Fault name letters) → IsPassed program.listing (place + 1) from old
    → tracked to ≡ from → (IsPassed program.listing place (tracked to) old → IsPassed program.listing place (tracked to) new)
    → new.settled ≡ old.settled → new.keeps ≡ old.keeps → new.known ≡ old.known
    → OnOk r (Gives (holds before) (holds after) (line_for (chance_at program.chances name.chance).text (anticommuting (letters_in letters) from))) → kept after ≡ kept before
    → IsGoneOver tracked kept holds program.listing place to old new before after r
fault_over {tracked = tracked} {holds = holds} program {place = place} {from = from} {to = to} {old = old} {before = before} {after = after} {r = r} name letters at named passed words same settled keeps known lines store =
    let p = same (passed-fault program place from old passed name.number (tracked to) at words) in
    record {
      undone = record { passed = on_ok_any r p; stays = stays_as settled keeps known };
      lines = on_ok_weaker r (subst (Gives (holds before) (holds after)) (fault_line program place name (letters_in letters) from at named.0 named.1 passed.words)) lines;
      store = store;
    }
