-- How many records a run has made, and the loop over the steps of a run.
use Rattle.std.proofs.Common.{◌≡◌, ℕ, zero, suc, ◌+◌, ◌≤◌, Bool, true, List, [], ◌∷◌, length, drop, sym, ap, ◌∙◌, arith, length-append}
use Rattle.std.specs.Prelude.{Some, None}
use Rattle.std.specs.List.{list_all}
use Rattle.std.proofs.lemmas.Bool.{and_parts}
use Rattle.std.proofs.lemmas.List.FromFn.{length-range_with_len}
use Rattle.step_model.specs.Listing.{Listing, ListedStep, Collapse, step_records}
use Rattle.step_model.specs.Runs.{RunState, start, next, run_from, records_of}
use Rattle.step_model.specs.WellFormed.{IsWellFormed, records_made, step_fits}
use Rattle.step_model.proofs.StateIsGroup.{list_all-pass}
use Rattle.forward_sim.specs.SameRuns.{IsSameRun}
use Rattle.forward_sim.specs.private.Along.{MakesRest}
use Rattle.forward_sim.proofs.SameStates.{same-run_from}

pub length-next : (program : Listing) (faults : List Bool) (step : ListedStep) (m : RunState) → length (next program faults step m).records ≡ length m.records + length (step_records step)
length-next program faults (Collapse c None) m = omega arith
length-next program faults (Collapse c (Some r)) m = length-append m.records _
length-next program faults step m = omega arith

pub length-run_from : (program : Listing) (faults : List Bool) (steps : List ListedStep) (m : RunState) → length (run_from program faults steps m).records ≡ length m.records + length (records_made steps)
length-run_from program faults [] m = omega arith
length-run_from program faults (step ∷ steps) m =
    omega (arith, length-run_from program faults steps (next program faults step m), length-next program faults step m, length-append (step_records step) (records_made steps))

-- a run makes as many records as its program has
pub length-records_of : (program : Listing) (faults coins : List Bool) → IsWellFormed program → length (records_of program faults coins) ≡ program.records
length-records_of program faults coins well_formed =
    let made : length (records_made program.steps) ≡ program.records =
    ap length well_formed.records_in_order ∙ length-range_with_len 0 program.records in
    omega (arith, made, length-run_from program faults program.steps (start coins))

pub all_fit : (program : Listing) → IsWellFormed program → list_all (step_fits program) program.steps ≡ true
all_fit program well_formed = list_all-pass (step_fits program) program.steps well_formed.steps_fit

list_all-drop : {X : Type 0} (test : X → Bool) (k : ℕ) (xs : List X) → list_all test xs ≡ true → list_all test (drop k xs) ≡ true
list_all-drop test zero xs h = h
list_all-drop test (suc k) [] h = h
list_all-drop test (suc k) (x ∷ xs) h = list_all-drop test k xs (and_parts (test x) (list_all test xs) h).1

-- a run from the start's states makes them all
pub rest_at_start : (program : Listing) (faults coins : List Bool) (m : RunState) → IsWellFormed program → IsSameRun program.qubits m (start coins) → MakesRest program faults coins 0 m
rest_at_start program faults coins m well_formed same =
    same-run_from program faults program.steps m (start coins) (all_fit program well_formed) same

-- the steps behind the first that is left fit, and there is room for its record
pub record StepIsNext (program : Listing) (behind : ℕ) (step : ListedStep) (m : RunState) : Type 0 where
  pub rest_fit : list_all (step_fits program) (drop behind program.steps) ≡ true
  pub room : length m.records + length (step_records step) ≤ program.records

pub step_is_next : (program : Listing) (faults coins : List Bool) (place behind : ℕ) (step : ListedStep) (m : RunState) → IsWellFormed program → drop place program.steps ≡ step ∷ drop behind program.steps → MakesRest program faults coins place m → StepIsNext program behind step m
step_is_next program faults coins place behind step m well_formed left rest =
    let after = drop behind program.steps in
    let made : length (records_made (drop place program.steps)) ≡ length (step_records step) + length (records_made after) =
    ap (λ steps. length (records_made steps)) left ∙ length-append (step_records step) (records_made after) in
    let whole : length (run_from program faults (drop place program.steps) m).records ≡ program.records =
    ap length rest ∙ length-records_of program faults coins well_formed in
    let all : list_all (step_fits program) (step ∷ after) ≡ true =
    ap (list_all (step_fits program)) (sym left)
    ∙ list_all-drop (step_fits program) place program.steps (all_fit program well_formed) in
    record {
      rest_fit = (and_parts (step_fits program step) (list_all (step_fits program) after) all).1;
      room = omega (arith, made, whole, length-run_from program faults (drop place program.steps) m);
    }

-- a run that has taken this step is one between the next two
pub rest_after_step : (program : Listing) (faults coins : List Bool) (place behind : ℕ) (step : ListedStep) (m after : RunState) → IsWellFormed program → drop place program.steps ≡ step ∷ drop behind program.steps → MakesRest program faults coins place m → IsSameRun program.qubits after (next program faults step m) → MakesRest program faults coins behind after
rest_after_step program faults coins place behind step m after well_formed left rest same =
    same-run_from program faults (drop behind program.steps) after (next program faults step m) (step_is_next program faults coins place behind step m well_formed left rest).rest_fit same
    ∙ ap (λ steps. (run_from program faults steps m).records) (sym left)
    ∙ rest

-- behind the last step the records are all
pub records_at_end : (program : Listing) (faults coins : List Bool) (place : ℕ) (m : RunState) → drop place program.steps ≡ [] → MakesRest program faults coins place m → m.records ≡ records_of program faults coins
records_at_end program faults coins place m none rest =
    ap (λ steps. (run_from program faults steps m).records) (sym none) ∙ rest
