-- What an analysis answers, and what its sink took, once all that was pushed has been sent or a call has failed.
use Rattle.std.proofs.Common.{◌≡◌, ℕ, Bool, true, false, List, [], ◌++◌, length, take, Option, None, inl, inr, refl, ap, subst, sym, ◌∙◌, arith, append_assoc}
use Rattle.std.specs.Prelude.{◌⊎◌, Result, Ok, Err, IfOk, IfErr, OnErr, OnOk}
use Rattle.std.proofs.Math.Seq.{take-append_seam}
use Rattle.std.proofs.lemmas.List.{take-append-le}
use Rattle.step_model.specs.declared.fault.Fault.{Fault}
use Rattle.step_model.specs.declared.step.Place.{Place}
use Rattle.step_model.specs.Ends.{Takes, TakesBeginning, TakesSome, next_count, write_failures}
use Rattle.step_model.specs.Faults.{memory_fault, write_fault}
use Rattle.step_model.specs.HitModels.{model_of}
use Rattle.step_model.specs.Listing.{Listing}
use Rattle.step_model.proofs.EndsLemmas.{TakesSome-beginning}
use Rattle.error_models.specs.ModelText.{model_text}
use Rattle.step_model.specs.Held.{Held}
use Rattle.step_model.specs.Pushed.{IsPushed, Outlet, Pushes}
use Rattle.step_model.proofs.Finishing.{StaysFailed, all-finished, beginning-finished, count-finished, fresh}
use Rattle.backward.specs.Places.{NoneIsRandom}
use Rattle.backward.specs.private.Answered.{Answers, PushesAnswer}
use Rattle.backward.specs.private.Points.{PushesSome}
use Rattle.backward.proofs.StretchLemmas.{on_err_any}

-- where a call failed, nothing or a beginning of the text was pushed
if_ok_failed : {T E : Type 0} (P : T → Type 0) {r : Result T E} {y : E} → r ≡ Err y → IfOk r P
if_ok_failed P e = subst (λ r. IfOk r P) (sym e) tt

pub failed_answer : {S E : Type 0} {taken : S → Option (List ℕ)} {failures : S → ℕ} {old new : S} {held_old held_new : Held} {program : Listing} {r : Result (Option (ℕ × Place)) E} {y : E} → r ≡ Err y
    → ((new ≡ old) × (held_new ≡ held_old)) ⊎ (NoneIsRandom program × PushesSome taken failures old new held_old held_new (model_text (model_of program))) → PushesAnswer taken failures old new held_old held_new program r
failed_answer {r = r} e some = record { none = if_ok_failed _ e; text = if_ok_failed _ e; lowest = if_ok_failed _ e; nothing = if_ok_failed _ e; some = on_err_any r some }

-- what is pushed to a buffer that is empty went out, or is held
pub some_taken : {S : Type 0} {taken : S → Option (List ℕ)} {failures : S → ℕ} (s t : S) (held : Held) (whole : List ℕ) → PushesSome taken failures s t (record { bytes = []; failed = false }) held whole → TakesSome (taken s) (taken t) whole
some_taken {S} {taken} {failures} s t held whole some = by_state held.failed some.pushes.pushed
  where
    old : Outlet
    old = record { taken = taken s; failures = failures s; held = [] }

    new : Outlet
    new = record { taken = taken t; failures = failures t; held = held.bytes }

    by_state : (b : Bool) → IsPushed false b (record { taken = taken s; failures = failures s; held = [] }) (record { taken = taken t; failures = failures t; held = held.bytes }) some.front → TakesSome (taken s) (taken t) whole
    by_state false h =
        let all : h.gone ++ (held.bytes ++ some.rest) ≡ whole = sym (append_assoc h.gone held.bytes some.rest) ∙ (ap (λ (l : List ℕ). l ++ some.rest) h.rest ∙ some.whole) in
        (length h.gone, subst (Takes (taken s) (taken t)) (sym (take-append_seam h.gone (held.bytes ++ some.rest)) ∙ ap (take (length h.gone)) all) h.takes)
    by_state true h =
        let n : ℕ = h.beginning.0 in
        (n, subst (Takes (taken s) (taken t)) (sym (take-append-le n some.front some.rest (omega (arith, h.beginning.1))) ∙ ap (take n) some.whole) h.beginning.2)

-- and the sink's failures are counted where it failed
counted : {S : Type 0} {taken : S → Option (List ℕ)} {failures : S → ℕ} (s t : S) (held : Held) (whole : List ℕ) → PushesSome taken failures s t fresh held whole
    → (held.failed ≡ true → failures t ≡ next_count (failures s)) × (held.failed ≡ false → failures t ≡ failures s)
counted {S} {taken} {failures} s t held whole some = by_state held.failed some.pushes.pushed
  where
    by_state : (b : Bool) → IsPushed false b (record { taken = taken s; failures = failures s; held = [] }) (record { taken = taken t; failures = failures t; held = held.bytes }) some.front
        → (b ≡ true → failures t ≡ next_count (failures s)) × (b ≡ false → failures t ≡ failures s)
    by_state false h = (λ e. cc, λ _. h.same_count)
    by_state true h = (λ _. h.counted, λ e. cc)

-- ---- a call that failed
abbrev NothingOrSome : {S : Type 0} → (S → Option (List ℕ)) → (S → ℕ) → S → S → Held → Listing → Type 0
NothingOrSome taken failures s t held program = ((t ≡ s) × (held ≡ fresh)) ⊎ (NoneIsRandom program × PushesSome taken failures s t fresh held (model_text (model_of program)))

took_some : {S : Type 0} (taken : S → Option (List ℕ)) (failures : S → ℕ) (s t : S) (held : Held) (program : Listing) → NothingOrSome taken failures s t held program → (t ≡ s) ⊎ (NoneIsRandom program × TakesSome (taken s) (taken t) (model_text (model_of program)))
took_some taken failures s t held program (inl h) = inl h.0
took_some taken failures s t held program (inr h) = inr (h.0, some_taken s t held (model_text (model_of program)) h.1)

-- since the sink failed
pub answers_broken : {S : Type 0} (taken : S → Option (List ℕ)) (failures : S → ℕ) (s t : S) (held : Held) (program : Listing) → held.failed ≡ true → NothingOrSome taken failures s t held program → Answers taken failures s t program (Err write_fault)
answers_broken taken failures s t held program failed h =
    record { none = tt; written = tt; lowest = tt; nothing = tt; fault = inr refl; beginning = took_some taken failures s t held program h; writes = by_case h }
  where
    by_case : NothingOrSome taken failures s t held program → failures t ≡ next_count (failures s)
    by_case (inl h) = let no : false ≡ true = sym (ap (λ (held : Held). held.failed) h.1) ∙ failed in cc
    by_case (inr h) = (counted s t held (model_text (model_of program)) h.1).0 failed

-- since there was no memory
pub answers_out_of_memory : {S : Type 0} (taken : S → Option (List ℕ)) (failures : S → ℕ) (s t : S) (held : Held) (program : Listing) → held.failed ≡ false → NothingOrSome taken failures s t held program → Answers taken failures s t program (Err memory_fault)
answers_out_of_memory taken failures s t held program works h =
    record { none = tt; written = tt; lowest = tt; nothing = tt; fault = inl refl; beginning = took_some taken failures s t held program h; writes = by_case h }
  where
    by_case : NothingOrSome taken failures s t held program → failures t ≡ failures s
    by_case (inl h) = ap failures h.0
    by_case (inr h) = (counted s t held (model_text (model_of program)) h.1).1 works

-- ---- the end of the text
on_err_told : {T E P : Type 0} (r : Result T E) (e : E) → r ≡ Err e → OnErr r P → P
on_err_told (Ok x) e is p = cc
on_err_told (Err d) e is p = p

module _ {S U : Type 0} (taken : S → Option (List ℕ)) (failures : S → ℕ) (s t u : S) (held : Held) (program : Listing) (r : Result U Fault) (none : NoneIsRandom program) (pushed : Pushes taken failures s t fresh held (model_text (model_of program)))
    (stays : StaysFailed held r t u) (count : held.failed ≡ false → failures u ≡ write_failures r (failures t)) where
  pub answers_all : (v : U) → r ≡ Ok v → OnOk r (Takes (taken t) (taken u) held.bytes) → Answers taken failures s u program (Ok None)
  answers_all v is all =
      record {
        none = none;
        written = subst (λ r. OnOk r (Takes (taken s) (taken u) (model_text (model_of program)))) is (all-finished pushed stays all);
        lowest = tt;
        nothing = tt;
        fault = tt;
        beginning = tt;
        writes = subst (λ r. failures u ≡ write_failures r (failures s)) is (count-finished pushed stays count);
      }

  pub answers_some : (e : Fault) → r ≡ Err e → IfErr r (λ e. e ≡ write_fault) → (held.failed ≡ false → OnErr r (TakesBeginning (taken t) (taken u) held.bytes)) → Answers taken failures s u program (Err e)
  answers_some e is fault beginning =
      record {
        none = tt;
        written = tt;
        lowest = tt;
        nothing = tt;
        fault = inr (subst (λ r. IfErr r (λ e. e ≡ write_fault)) is fault);
        beginning = inr (none, TakesSome-beginning (taken s) (taken u) (model_text (model_of program)) (on_err_told r e is (beginning-finished pushed stays beginning)));
        writes = subst (λ r. failures u ≡ write_failures r (failures s)) is (count-finished pushed stays count);
      }
