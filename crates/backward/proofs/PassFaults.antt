-- What is kept stays as it is over faults, where no lines are found.
use Rattle.std.proofs.Common.{◌≡◌, ℕ, zero, suc, ◌+◌, ◌-◌, ◌<◌, ◌≤◌, true, Option, Some, refl, subst, arith}
use Rattle.std.specs.Prelude.{slice_get}
use Rattle.step_model.specs.Listing.{ListedStep, Fault}
use Rattle.circuit_walk.specs.Programs.{KeptProgram}
use Rattle.circuit_walk.specs.Walks.{PassesBack, is_fault}
use Rattle.trackers.specs.Tracked.{Tracked}
use Rattle.backward.specs.declared.found.Found.{Found}
use Rattle.backward.specs.private.Passes.{IsPassed}
use Rattle.backward.proofs.PassSteps.{passed-fault}
use Rattle.backward.proofs.StepLemmas.{step_at}

fault_there : (o : Option ListedStep) → is_fault o ≡ true → (f : ℕ) × (o ≡ Some (Fault f))
fault_there (Some (Fault f)) h = (f, refl)
fault_there other h = cc

module _ {A : Type 0} (program : KeptProgram) (t : Tracked) (found : Found A) where
  over_faults : (count old new : ℕ) → old ≡ new + count → ((k : ℕ) → new ≤ k → k < old → is_fault (slice_get program.listing.steps k) ≡ true) → IsPassed program.listing old t found → IsPassed program.listing new t found
  over_faults zero old new e each h = subst (λ place. IsPassed program.listing place t found) (omega (arith, e)) h
  over_faults (suc count) old new e each h =
      let place = old - 1 in
      let there = fault_there (slice_get program.listing.steps place) (each place (omega (arith, e)) (omega (arith, e))) in
      let after : IsPassed program.listing (place + 1) t found = subst (λ place. IsPassed program.listing place t found) (omega (arith, e)) h in
      over_faults count place new (omega (arith, e)) (λ k from to. each k from (omega (arith, to)))
      (passed-fault program place t found after there.0 t (step_at program.listing place (Fault there.0) there.1) refl)

  pub passed-faults : (walked : KeptProgram) (from old new : ℕ) → walked ≡ program → PassesBack (λ k. is_fault (slice_get walked.listing.steps k)) from old new → IsPassed program.listing old t found → IsPassed program.listing new t found
  passed-faults walked from old new same went =
      over_faults (old - new) old new (omega (arith, went.below))
      (λ k first last. subst (λ (p : KeptProgram). is_fault (slice_get p.listing.steps k) ≡ true) same (went.each k first last))
