-- How many records, collapses and faults come before a place among steps, from one place to the next.
use Rattle.std.proofs.Common.{◌≡◌, ◌+◌, ℕ, zero, suc, Bool, if◌then◌else◌, List, [], ◌∷◌, length, length-append, Some, refl, ap, arith}
use Rattle.std.specs.Prelude.{slice_get, take}
use Rattle.step_model.specs.Listing.{ListedStep, is_collapse, step_records}
use Rattle.step_model.specs.WellFormed.{collapse_count, faults_named, records_made, step_faults}
use Rattle.stim_parser.specs.declared.operation.Operation.{Operation}
use Rattle.circuit_walk.specs.declared.step.Counts.{Counts}
use Rattle.circuit_walk.specs.private.InstructionSteps.{counts_behind}
use Rattle.circuit_walk.specs.private.Walks.{AreCountsAt}
use Rattle.circuit_walk.proofs.CountLemmas.{MakesAs}

-- one step more is taken
pub record Taken (steps : List ListedStep) (place : ℕ) (s : ListedStep) : Type 0 where
  pub records : length (records_made (take (place + 1) steps)) ≡ length (records_made (take place steps)) + length (step_records s)
  pub collapses : collapse_count (take (place + 1) steps) ≡ collapse_count (take place steps) + (if is_collapse s then 1 else 0)
  pub faults : length (faults_named (take (place + 1) steps)) ≡ length (faults_named (take place steps)) + length (step_faults s)

pub taken : (steps : List ListedStep) (place : ℕ) (s : ListedStep) → slice_get steps place ≡ Some s → Taken steps place s
taken [] place s got = absurd cc
taken (x ∷ steps) zero s got =
    let same : x ≡ s = cc in
    record {
      records = omega (arith, length-append (step_records x) [], ap (λ y. length (step_records y)) same);
      collapses = omega (arith, ap {B = ℕ} (λ y. if is_collapse y then 1 else 0) same);
      faults = omega (arith, length-append (step_faults x) [], ap (λ y. length (step_faults y)) same);
    }
taken (x ∷ steps) (suc place) s got =
    let later = taken steps place s got in
    let all = x ∷ steps in
    let e : suc place + 1 ≡ suc (place + 1) = omega arith in
    let records : (k : ℕ) → length (records_made (take (suc k) all)) ≡ length (step_records x) + length (records_made (take k steps)) = λ k. length-append (step_records x) (records_made (take k steps)) in
    let collapses : (k : ℕ) → collapse_count (take (suc k) all) ≡ (if is_collapse x then 1 else 0) + collapse_count (take k steps) = λ k. refl in
    let faults : (k : ℕ) → length (faults_named (take (suc k) all)) ≡ length (step_faults x) + length (faults_named (take k steps)) = λ k. length-append (step_faults x) (faults_named (take k steps)) in
    record {
      records = omega (arith, ap (λ j. length (records_made (take j all))) e, records (place + 1), records place, later.records);
      collapses = omega (arith, ap (λ j. collapse_count (take j all)) e, collapses (place + 1), collapses place, later.collapses);
      faults = omega (arith, ap (λ j. length (faults_named (take j all))) e, faults (place + 1), faults place, later.faults);
    }

pub counted_behind : (steps : List ListedStep) (place : ℕ) (s : ListedStep) (operation : Operation) (flips : Bool) (c : Counts) → slice_get steps place ≡ Some s → MakesAs operation flips s → AreCountsAt steps place c → AreCountsAt steps (place + 1) (counts_behind operation flips c)
counted_behind steps place s operation flips c got makes h =
    let more = taken steps place s got in
    record {
      records = omega (arith, more.records, makes.records_are, h.records);
      collapses = omega (arith, more.collapses, makes.collapses_are, h.collapses);
      faults = omega (arith, more.faults, makes.faults_are, h.faults);
    }

-- the counts of a place
abbrev pub counts_of : List ListedStep → ℕ → Counts
counts_of steps place =
    record {
      records = length (records_made (take place steps));
      collapses = collapse_count (take place steps);
      faults = length (faults_named (take place steps));
    }

pub counted_before : (steps : List ListedStep) (place : ℕ) (s : ListedStep) (operation : Operation) (flips : Bool) (c : Counts) → slice_get steps place ≡ Some s → MakesAs operation flips s → AreCountsAt steps (place + 1) c → c ≡ counts_behind operation flips (counts_of steps place)
counted_before steps place s operation flips c got makes h =
    let more = taken steps place s got in
    same c.records _ c.collapses _ c.faults _ (omega (arith, more.records, makes.records_are, h.records)) (omega (arith, more.collapses, makes.collapses_are, h.collapses)) (omega (arith, more.faults, makes.faults_are, h.faults))
  where
    made : ℕ → ℕ → ℕ → Counts
    made r k f = record { records = r; collapses = k; faults = f }

    same : (r r' k k' f f' : ℕ) → r ≡ r' → k ≡ k' → f ≡ f' → made r k f ≡ made r' k' f'
    same r r' k k' f f' er ek ef = cc

pub counts_are : (steps : List ListedStep) (place : ℕ) → AreCountsAt steps place (counts_of steps place)
counts_are steps place = record { records = refl; collapses = refl; faults = refl }
