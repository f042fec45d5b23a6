-- A run that goes along with the steps of a program, one by one and over faults that don't happen.
use Rattle.std.proofs.Common.{◌≡◌, ◌+◌, ◌<◌, ◌≤◌, ℕ, zero, suc, Bool, List, [], ◌∷◌, false, length, refl, sym, ap, ◌∙◌, subst, arith, Option, Some}
use Rattle.std.specs.Prelude.{IfSome, slice_get, ◌&&◌}
use Rattle.std.proofs.lemmas.List.{drop_all}
use Rattle.pauli_word.specs.Words.{anticommute, with_sign_changed}
use Rattle.step_model.specs.declared.step.Term.{Term}
use Rattle.step_model.specs.Listing.{Listing, Fault, fault_word}
use Rattle.step_model.specs.Runs.{RunState, happens, next, records_of, start}
use Rattle.step_model.specs.WellFormed.{IsWellFormed}
use Rattle.circuit_walk.specs.declared.step.Step.{Step}
use Rattle.circuit_walk.specs.Named.{IsStepOf}
use Rattle.circuit_walk.specs.Programs.{KeptProgram}
use Rattle.circuit_walk.specs.Walks.{AreFaultsFrom}
use Rattle.forward_sim.specs.private.Along.{GoesAlong, KeepsRest, MakesRest}
use Rattle.forward_sim.specs.private.Machines.{CanTake}
use Rattle.forward_sim.specs.private.Quiet.{NoneHappens}
use Rattle.forward_sim.specs.SameRuns.{IsSameRun}
use Rattle.forward_sim.proofs.PassedFaults.{behind_each}
use Rattle.forward_sim.proofs.ReferenceSteps.{keeps_after_step}
use Rattle.forward_sim.proofs.RunRecords.{records_at_end, rest_after_step, rest_at_start, step_is_next}
use Rattle.forward_sim.proofs.WalkedSteps.{drop-step, listed_of}

pub along_start : (program : Listing) (faults coins : List Bool) (n most : ℕ) (m : RunState) → IsWellFormed program → n ≡ program.qubits → most ≡ program.records → IsSameRun program.qubits m (start coins)
    → GoesAlong program faults coins 0 n most m
along_start program faults coins n most m well_formed qubits room same =
    record { qubits = qubits; room = room; rest = rest_at_start program faults coins m well_formed same }

-- the next step: it can be taken, and the run goes along
module _ (program : KeptProgram) (k : ℕ) (step : Step) (faults coins : List Bool) (n most : ℕ) (m : RunState) (well_formed : IsWellFormed program.listing)
    (here : slice_get program.listing.steps k ≡ Some (listed_of program step)) (along : GoesAlong program.listing faults coins k n most m) where
  pub along_can : IsStepOf program step → CanTake program step n (length m.records) most
  along_can named =
      let left = drop-step program.listing.steps k (listed_of program step) here in
      let next = step_is_next program.listing faults coins k (k + 1) (listed_of program step) m well_formed left along.rest in
      record { of_program = named; qubits = along.qubits; room = omega (arith, next.room, along.room) }

  pub along_on : (n' most' : ℕ) (after : RunState) → n' ≡ n → most' ≡ most → IsSameRun n after (next program.listing faults (listed_of program step) m) → GoesAlong program.listing faults coins (k + 1) n' most' after
  along_on n' most' after qubits room same =
      record {
        qubits = qubits ∙ along.qubits;
        room = room ∙ along.room;
        rest =
            rest_after_step program.listing faults coins k (k + 1) (listed_of program step) m after well_formed (drop-step program.listing.steps k (listed_of program step) here) along.rest
            (subst (λ q. IsSameRun q after (next program.listing faults (listed_of program step) m)) along.qubits same);
      }

-- a fault that doesn't happen leaves a run as it is
pub same-quiet : (program : Listing) (faults : List Bool) (f n : ℕ) (m : RunState) → happens faults f ≡ false → IsSameRun n m (next program faults (Fault f) m)
same-quiet program faults f n m quiet = record {
  state = λ p size. sym (ap (λ b. m.state (with_sign_changed (b && anticommute p.letters (fault_word program f)) p)) quiet);
  coins = refl;
  records = refl;
}

quiet_at : (faults : List Bool) (f : ℕ) → IfSome (slice_get faults f) (λ b. b ≡ false) → happens faults f ≡ false
quiet_at [] f none = refl
quiet_at (b ∷ faults) zero none = none
quiet_at (b ∷ faults) (suc f) none = quiet_at faults f none

pub none_happens : (faults : List Bool) (from end : ℕ) → ((f : ℕ) → from ≤ f → f < end → IfSome (slice_get faults f) (λ b. b ≡ false)) → NoneHappens faults from end
none_happens faults from end none f low high = quiet_at faults f (none f low high)

-- so do faults in a row none of which happens
module _ (program : Listing) (well_formed : IsWellFormed program) (k first count : ℕ) (faults coins : List Bool) (are : AreFaultsFrom program.steps k first count) (none : NoneHappens faults first (first + count))
    (n most : ℕ) (m : RunState) where
  pub along_quiet : GoesAlong program faults coins k n most m → GoesAlong program faults coins (k + count) n most m
  along_quiet before =
      behind_each (λ j. GoesAlong program faults coins j n most m) (λ f. happens faults f ≡ false) program.steps
      (λ j f here quiet left. record {
        qubits = left.qubits;
        room = left.room;
        rest = rest_after_step program faults coins j (j + 1) (Fault f) m m well_formed (drop-step program.steps j (Fault f) here) left.rest (same-quiet program faults f program.qubits m quiet);
      })
      count k first are none before

-- and so does what is kept of the reference run, in which no fault happens
pub keeps_quiet : (program : Listing) → IsWellFormed program → (k first count : ℕ) → AreFaultsFrom program.steps k first count → (m : RunState) (kept : List (Option (List Term)))
    → MakesRest program [] [] k m → KeepsRest program k m kept → KeepsRest program (k + count) m kept
keeps_quiet program well_formed k first count are m kept makes keeps =
    let behind = behind_each (λ j. MakesRest program [] [] j m × KeepsRest program j m kept) (λ f. happens [] f ≡ false) program.steps
    (λ j f here quiet left.
    let next_is = drop-step program.steps j (Fault f) here in
    let same = same-quiet program [] f program.qubits m quiet in (
      rest_after_step program [] [] j (j + 1) (Fault f) m m well_formed next_is left.0 same,
      keeps_after_step program j (j + 1) (Fault f) m m kept kept well_formed next_is left.0 same refl left.1,
    ))
    count k first are (λ f from to. refl) (makes, keeps) in
    behind.1

-- behind all steps
pub records_behind_all : (program : Listing) (faults coins : List Bool) (m : RunState) → MakesRest program faults coins (length program.steps) m → m.records ≡ records_of program faults coins
records_behind_all program faults coins m rest =
    records_at_end program faults coins (length program.steps) m (drop_all (length program.steps) program.steps (omega arith)) rest
