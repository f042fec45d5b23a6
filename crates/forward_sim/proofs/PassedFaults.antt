-- Faults that a walk passes over at once.
use Rattle.std.proofs.Common.{◌≡◌, ℕ, zero, suc, ◌+◌, ◌<◌, ◌≤◌, List, sym, ap, subst, ◌∙◌, arith}
use Rattle.std.specs.Prelude.{Some, slice_get}
use Rattle.step_model.specs.Listing.{ListedStep, Fault}

-- what holds before a fault of some kind and then behind it, holds behind all that are passed, where all are of this kind
module _ (holds kind : ℕ → Type 0) (steps : List ListedStep) (over : (k f : ℕ) → slice_get steps k ≡ Some (Fault f) → kind f → holds k → holds (k + 1)) where
  pub behind_each : (count place number : ℕ) → ((i : ℕ) → i < count → slice_get steps (place + i) ≡ Some (Fault (number + i))) → ((f : ℕ) → number ≤ f → f < number + count → kind f) → holds place → holds (place + count)
  behind_each zero place number each all before = let same : place ≡ place + 0 = omega arith in subst holds same before
  behind_each (suc count) place number each all before =
      let first : place + 0 ≡ place = omega arith in
      let named : number + 0 ≡ number = omega arith in
      let here : slice_get steps place ≡ Some (Fault number) = ap (slice_get steps) (sym first) ∙ each 0 (omega arith) ∙ ap (λ f. Some (Fault f)) named in
      let later : place + 1 + count ≡ place + suc count = omega arith in
      subst holds later
      (behind_each count (place + 1) (number + 1)
      (λ i below.
      let there : place + 1 + i ≡ place + suc i = omega arith in
      let next : number + suc i ≡ number + 1 + i = omega arith in
      ap (slice_get steps) there ∙ each (suc i) (omega arith) ∙ ap (λ f. Some (Fault f)) next)
      (λ f from to. all f (omega arith) (omega arith))
      (over place number here (all number (omega arith) (omega arith)) before))
