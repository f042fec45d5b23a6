-- The steps of an error are faults in a row, with the next numbers; no step of another operation is such a fault.
use Rattle.std.proofs.Common.{◌≡◌, ◌≤◌, ◌<◌, ◌+◌, ◌-◌, ◌*◌, ℕ, zero, suc, Bool, true, false, List, length, Some, refl, sym, ap, ◌∙◌, arith}
use Rattle.std.specs.Prelude.{slice_get, take}
use Rattle.std.proofs.lemmas.Option.{slice_get_within}
use Rattle.cursor.specs.Places.{before_of}
use Rattle.step_model.specs.Listing.{ListedStep, Fault}
use Rattle.step_model.specs.WellFormed.{collapse_count}
use Rattle.stim_parser.specs.declared.operation.Operation.{Operation}
use Rattle.stim_parser.specs.declared.operation.Operation.TheVariants.{Measurement, MeasurementReset, ProductMeasurement, PauliError, CorrelatedError}
use Rattle.stim_parser.specs.declared.target.Target.{Target}
use Rattle.circuit_walk.specs.declared.course.Course.{Course}
use Rattle.circuit_walk.specs.declared.letters.Letters.{Letters}
use Rattle.circuit_walk.specs.declared.step.FaultName.{FaultName}
use Rattle.circuit_walk.specs.declared.step.Step.{Step}
use Rattle.circuit_walk.specs.declared.step.Step.TheVariants as step
use Rattle.circuit_walk.specs.Steps.{listed}
use Rattle.circuit_walk.specs.Before.{Before}
use Rattle.circuit_walk.specs.Programs.{KeptProgram}
use Rattle.circuit_walk.specs.StepsMade.{operation_made}
use Rattle.circuit_walk.specs.Walks.{AreFaultsFrom, ArePassed, faults_before, is_fault, records_before}
use Rattle.circuit_walk.specs.private.Courses.{IsCourse}
use Rattle.circuit_walk.specs.private.InstructionSteps.{IsAt, end_of}
use Rattle.circuit_walk.specs.Makes.{makes_errors}
use Rattle.circuit_walk.specs.Makes.{makes_faults, makes_records, one_if}
use Rattle.circuit_walk.specs.private.Walks.{is_step_maker, state_at, steps_of}
use Rattle.circuit_walk.proofs.BackLemmas.{steps_at, takes_back}
use Rattle.circuit_walk.proofs.CountLemmas.{MakesAs, length-numbered}
use Rattle.circuit_walk.proofs.EndLemmas.{ends}
use Rattle.circuit_walk.proofs.PlaceCounts.{taken}
use Rattle.circuit_walk.proofs.StepLemmas.{numbered_at, there_is}
use Rattle.circuit_walk.proofs.TakeLemmas.{counts_few, goes_on, step_at}

-- ---- errors

-- each step of an error is the next fault
error_at : (n : ℕ) (b : Before) (o : Operation) (arguments : List (List ℕ)) (ts : List Target) (k : ℕ) → makes_errors o ≡ true → k < length (operation_made n b o arguments ts) → slice_get (operation_made n b o arguments ts) k ≡ Some (Fault (b.faults + k))
error_at n b (PauliError l) arguments ts k h lt =
    let t = there_is ts k (omega (arith, lt, length-numbered b.faults (λ f (target : Target). Fault f) ts)) in
    numbered_at b.faults (λ f (target : Target). Fault f) ts k t.0 t.1
error_at n b CorrelatedError arguments ts zero h lt =
    let same : b.faults ≡ b.faults + 0 = omega arith in ap (λ f. Some (Fault f)) same
error_at n b CorrelatedError arguments ts (suc k) h lt = absurd (omega (arith, lt))
error_at n b o arguments ts k h lt = absurd cc

-- what an error makes, and where its steps stand
record IsError (o : Operation) (flips : Bool) : Type 0 where
  pub records : one_if (makes_records o) ≡ 0
  pub faults : one_if (makes_faults o flips) ≡ 1
  pub place : (ts : List Target) (at k : ℕ) → IsAt o ts at k → (at ≡ k) × (k ≤ end_of o ts)
  pub stands : (ts : List Target) (at : ℕ) → at ≤ end_of o ts → IsAt o ts at at

is_error : (o : Operation) (flips : Bool) → makes_errors o ≡ true → IsError o flips
is_error (PauliError l) flips h = record { records = refl; faults = refl; place = λ ts at k is. is; stands = λ ts at le. (refl, le) }
is_error CorrelatedError flips h = record { records = refl; faults = refl; place = λ ts at k is. is; stands = λ ts at le. (refl, le) }
is_error o flips h = absurd cc

-- ---- other operations

-- a step of one that makes no record and names a fault is an error's
fault_made : (o : Operation) (flips : Bool) → makes_errors o ≡ false → 0 ≡ one_if (makes_records o) → 1 ≡ one_if (makes_faults o flips) → ⊥
fault_made (PauliError l) flips e r f = cc
fault_made CorrelatedError flips e r f = cc
fault_made (Measurement l) flips e r f = cc
fault_made (MeasurementReset l) flips e r f = cc
fault_made ProductMeasurement flips e r f = cc
fault_made o true e r f = cc
fault_made o false e r f = cc

pub no_fault : (o : Operation) (flips : Bool) (s : ListedStep) → makes_errors o ≡ false → MakesAs o flips s → is_fault (Some s) ≡ false
no_fault o flips (Fault f) e makes = absurd (fault_made o flips e makes.records_are makes.faults_are)
no_fault o flips s e makes = refl

-- ---- the counts over faults in a row

abbrev pub AreFaults : List ListedStep → ℕ → ℕ → Type 0
AreFaults steps place count = (j : ℕ) → j < count → (f : ℕ) × (slice_get steps (place + j) ≡ Some (Fault f))

pub record Runs (steps : List ListedStep) (place count : ℕ) : Type 0 where
  pub records : records_before steps (place + count) ≡ records_before steps place
  pub collapses : collapse_count (take (place + count) steps) ≡ collapse_count (take place steps)
  pub faults : faults_before steps (place + count) ≡ faults_before steps place + count

pub runs : (steps : List ListedStep) (place count : ℕ) → AreFaults steps place count → Runs steps place count
runs steps place zero are =
    let same : place + 0 ≡ place = omega arith in
    record {
      records = ap (records_before steps) same;
      collapses = ap (λ k. collapse_count (take k steps)) same;
      faults = ap (faults_before steps) same ∙ omega arith;
    }
runs steps place (suc count) are =
    let less = runs steps place count (λ j lt. are j (omega (arith, lt))) in
    let last = are count (omega arith) in
    let more = taken steps (place + count) (Fault last.0) last.1 in
    let next : place + suc count ≡ place + count + 1 = omega arith in
    record {
      records = omega (arith, ap (records_before steps) next, more.records, less.records);
      collapses = omega (arith, ap (λ k. collapse_count (take k steps)) next, more.collapses, less.collapses);
      faults = omega (arith, ap (faults_before steps) next, more.faults, less.faults);
    }

-- ---- a course inside an error

-- the faults of the instruction stand behind a first place, with the numbers that follow a first one, by their places among its
-- targets
pub record InError {A : Type 0} (program : KeptProgram) (c : Course A) : Type 0 where
  pub base : ℕ
  pub first : ℕ
  pub place_is : c.steps ≡ base + c.here.at
  pub number_is : c.counts.faults ≡ first + c.here.at
  pub within : c.here.at ≤ c.here.end
  pub fault_at : (j : ℕ) → j < c.here.end → slice_get program.listing.steps (base + j) ≡ Some (Fault (first + j))

pub in_error : {A : Type 0} (program : KeptProgram) (c : Course A) → IsCourse program c → c.inside ≡ true → makes_errors c.here.operation ≡ true → InError program c
in_error program c course inside errors =
    let h = course.inside inside in
    let n = program.listing.qubits in
    let items = c.text.items.now.items in
    let b = state_at n items c.cursor in
    let i = h.instruction in
    let steps = h.stands.steps in
    let own : makes_errors i.operation ≡ true = sym (ap makes_errors steps.operation) ∙ errors in
    let is = is_error i.operation c.here.flips own in
    let place = is.place i.targets c.here.at h.k h.stands.place in
    let all = ends n b i steps.fits in
    record {
      base = length (steps_of n (before_of is_step_maker items c.cursor));
      first = b.faults;
      place_is = omega (arith, h.place_is, place.0);
      number_is = omega (arith, h.stands.counts.faults, ap (λ m. h.k * m) is.faults, place.0);
      within = omega (arith, place.0, place.1, steps.end);
      fault_at = λ j lt.
          step_at program c course h j (Fault (b.faults + j))
          (error_at n b i.operation i.arguments i.targets j own
          (all.inside j j (is.stands i.targets j (omega (arith, lt, steps.end))) (omega (arith, lt, steps.end))));
    }

-- at most as many of them as there are places
fault_run : {A : Type 0} (program : KeptProgram) (c : Course A) → (e : InError program c) → (at : ℕ) → at ≤ c.here.end → Runs program.listing.steps e.base at
fault_run program c e at le = runs program.listing.steps e.base at (λ j lt. (e.first + j, e.fault_at j (omega (arith, lt, le))))

-- the first number is that of the first place
first_number : {A : Type 0} (program : KeptProgram) (c : Course A) → IsCourse program c → (e : InError program c) → faults_before program.listing.steps e.base ≡ e.first
first_number program c course e =
    omega (
      arith,
      (fault_run program c e c.here.at e.within).faults,
      ap (faults_before program.listing.steps) e.place_is,
      course.counted.faults,
      e.number_is,
    )

-- those from one place on
pub faults_from : {A : Type 0} (program : KeptProgram) (c : Course A) → IsCourse program c → (e : InError program c) → (at count place : ℕ) → at + count ≤ c.here.end → place ≡ e.base + at → ArePassed program.listing.steps place count
faults_from program c course e at count place le is = λ j lt.
    let steps = program.listing.steps in
    let here : place + j ≡ e.base + (at + j) = omega (arith, is) in
    let number : e.first + (at + j) ≡ faults_before steps place + j =
    omega (arith, (fault_run program c e at (omega (arith, le))).faults, first_number program c course e, ap (faults_before steps) is) in
    ap (slice_get steps) here ∙ e.fault_at (at + j) (omega (arith, lt, le)) ∙ ap (λ f. Some (Fault f)) number

-- the program has room for all of them
pub room : {A : Type 0} (program : KeptProgram) (c : Course A) → IsCourse program c → (e : InError program c) → 0 < c.here.end → (e.base + c.here.end ≤ c.text.totals.steps) × (c.counts.faults ≤ c.steps)
room program c course e some =
    let last = slice_get_within program.listing.steps (e.base + (c.here.end - 1)) _ (e.fault_at (c.here.end - 1) (omega (arith, some))) in
    (omega (arith, last, some, course.held.totals_are.steps, ap (λ l. length l.steps) course.held.listing), (counts_few _ _ _ course.counted).2)

-- the faults of the instruction that are ahead
pub numbered : {A : Type 0} (program : KeptProgram) (c : Course A) → (e : InError program c) → (count : ℕ) → c.here.at + count ≤ c.here.end → AreFaultsFrom program.listing.steps c.steps c.counts.faults count
numbered program c e count le = λ j lt.
    let here : c.steps + j ≡ e.base + (c.here.at + j) = omega (arith, e.place_is) in
    ap (slice_get program.listing.steps) here ∙ e.fault_at (c.here.at + j) (omega (arith, lt, le)) ∙ ap (λ f. Some (Fault f)) (omega (arith, e.number_is))

-- the fault right before the place
pub fault_before : {A : Type 0} (program : KeptProgram) (c : Course A) → (e : InError program c) → 0 < c.here.at → (place : ℕ) → c.steps ≡ place + 1 → slice_get program.listing.steps place ≡ Some (Fault (e.first + (c.here.at - 1)))
fault_before program c e some place is =
    let here : place ≡ e.base + (c.here.at - 1) = omega (arith, is, e.place_is, some) in
    ap (slice_get program.listing.steps) here ∙ e.fault_at (c.here.at - 1) (omega (arith, some, e.within))

-- a course at another place among the same targets
abbrev pub moved_to : {A : Type 0} → Course A → ℕ → ℕ → ℕ → Course A
moved_to c at faults steps =
    record c {
      here = steps_at c.here at;
      counts = record { records = c.counts.records; collapses = c.counts.collapses; faults = faults };
      steps = steps;
    }

pub moves : {A : Type 0} (program : KeptProgram) (c : Course A) → IsCourse program c → c.inside ≡ true → makes_errors c.here.operation ≡ true → (e : InError program c) → (at faults steps : ℕ) → at ≤ c.here.end → faults ≡ e.first + at → steps ≡ e.base + at → IsCourse program (moved_to c at faults steps)
moves program c course inside errors e at faults steps le number place =
    let h = course.inside inside in
    let i = h.instruction in
    let s = h.stands.steps in
    let listed = program.listing.steps in
    let is = is_error i.operation c.here.flips (sym (ap makes_errors s.operation) ∙ errors) in
    let here = is.place i.targets c.here.at h.k h.stands.place in
    let old = fault_run program c e c.here.at e.within in
    let new = fault_run program c e at le in
    goes_on program c (moved_to c at faults steps) course inside refl refl
    (record {
      instruction = i;
      rest = h.rest;
      k = at;
      left = h.left;
      faced = h.faced;
      stands = record {
        steps = record { operation = s.operation; targets = s.targets; flips = s.flips; end = s.end; fits = s.fits };
        place = is.stands i.targets at (omega (arith, le, s.end));
        counts = record {
          records = omega (arith, h.stands.counts.records, ap (λ m. h.k * m) is.records, ap (λ m. at * m) is.records);
          faults = omega (arith, number, e.number_is, h.stands.counts.faults, ap (λ m. h.k * m) is.faults, ap (λ m. at * m) is.faults, here.0);
        };
        near = h.stands.near;
      };
      marked = h.marked;
      place_is = omega (arith, place, e.place_is, h.place_is, here.0);
    })
    (record {
      records = omega (arith, course.counted.records, ap (records_before listed) e.place_is, old.records, new.records, ap (records_before listed) place);
      collapses = omega (arith, course.counted.collapses, ap (λ k. collapse_count (take k listed)) e.place_is, old.collapses, new.collapses, ap (λ k. collapse_count (take k listed)) place);
      faults = omega (arith, new.faults, ap (faults_before listed) place, first_number program c course e, number);
    })

-- ---- where no fault stands

pub no_fault_before : {A : Type 0} (program : KeptProgram) (c : Course A) → IsCourse program c → 0 < c.here.at → makes_errors c.here.operation ≡ false → is_fault (slice_get program.listing.steps (c.steps - 1)) ≡ false
no_fault_before program c course facing other =
    let back = takes_back program c course facing in
    let place : c.steps - 1 ≡ back.place = omega (arith, back.place_is) in
    ap (λ p. is_fault (slice_get program.listing.steps p)) place
    ∙ ap is_fault back.listed_is
    ∙ no_fault c.here.operation c.here.flips back.step other back.makes

-- ---- a step that is listed as a fault

pub listed_fault : (n : ℕ) (s : Step) (m : ℕ) → listed n s ≡ Fault m → (name : FaultName) × (letters : Letters) × (s ≡ step.Fault name letters)
listed_fault n (step.Fault name letters) m h = (name, letters, refl)
listed_fault n (step.One gate q) m h = absurd cc
listed_fault n (step.Two gate a b) m h = absurd cc
listed_fault n (step.Collapse letter q r reset inverted flip) m h = absurd cc
listed_fault n (step.CollapseWord letters r inverted flip) m h = absurd cc
listed_fault n (step.Feedback letter q r) m h = absurd cc

pub same_step : (s t : ListedStep) → Some s ≡ Some t → s ≡ t
same_step s t h = cc
