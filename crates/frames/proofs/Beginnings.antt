-- What a call that writes shots owes: where memory runs out nothing went out, and what went out before the sink failed is a
-- beginning.
use Rattle.std.proofs.Common.{◌≡◌, ℕ, List, Option, Result, Ok, Err, OnOk, OnErr, inl, inr, refl, ap, sym, subst}
use Rattle.std.specs.Prelude.{IfErr, IsErrAnd}
use Rattle.step_model.specs.declared.fault.Fault.{Fault}
use Rattle.step_model.specs.Ends.{Takes, TakesBeginning, TakesSome, write_failures}
use Rattle.step_model.specs.Faults.{memory_fault, write_fault}
use Rattle.step_model.proofs.EndsLemmas.{TakesSome-beginning, TakesSome-none}
use Rattle.frames.specs.private.WritesShots.{WritesShots}

module _ {S T : Type 0} (taken : S → Option (List ℕ)) (failures : S → ℕ) (text : List ℕ) where
  pub no_memory : (s : S) (r : Result T Fault) → IsErrAnd r (λ e. e ≡ memory_fault) → WritesShots taken failures s s text r
  no_memory s (Ok value) h = absurd h
  no_memory s (Err fault) h =
      record {
        written = tt;
        fault = inl h;
        writes = sym (ap (λ (f : Fault). write_failures {T = T} (Err f) (failures s)) h);
        beginning = TakesSome-none (taken s) (taken s) text refl;
      }

  pub no_memory_there : (s : S) (r : Result T Fault) (fault : Fault) → fault ≡ memory_fault → IsErrAnd r (λ e. e ≡ fault) → WritesShots taken failures s s text r
  no_memory_there s r fault is h = no_memory s r (subst (λ f. IsErrAnd r (λ e. e ≡ f)) is h)

  pub written_by : (old new : S) (r : Result T Fault) (other : List ℕ) → other ≡ text → OnOk r (Takes (taken old) (taken new) other) → IfErr r (λ e. e ≡ write_fault)
      → OnErr r (TakesBeginning (taken old) (taken new) other) → failures new ≡ write_failures r (failures old) → WritesShots taken failures old new text r
  written_by old new (Ok value) other same all fault beginning count =
      record { written = subst (Takes (taken old) (taken new)) same all; fault = tt; writes = count; beginning = tt }
  written_by old new (Err e) other same all fault beginning count =
      record {
        written = tt;
        fault = inr fault;
        writes = count;
        beginning = subst (TakesSome (taken old) (taken new)) same (TakesSome-beginning (taken old) (taken new) other beginning);
      }
