-- What a taker is handed at a place inside an instruction is the step of the program there, and behind it the place is the next one.
use Rattle.std.proofs.Common.{◌≡◌, ◌≢◌, ◌<◌, ◌≤◌, ◌+◌, ◌^◌, ℕ, Bool, false, true, List, Some, refl, sym, ap, ◌∙◌, subst, arith}
use Rattle.std.specs.Prelude.{nat_eq, slice_get}
use Rattle.std.proofs.lemmas.Bool.{eqb-false, eqb-true}
use Rattle.stim_parser.specs.declared.operation.Operation.{Operation}
use Rattle.stim_parser.specs.declared.operation.Operation.TheVariants.{Applies, CoordinateShift, CorrelatedError, DetectorDeclaration, Measurement, MeasurementReset, ObservableInclude, PauliError, ProductMeasurement, QubitCoordinates, QubitReset, Tick}
use Rattle.stim_parser.specs.declared.target.Target.{Target}
use Rattle.cursor.specs.declared.cursor.Cursor.{Cursor}
use Rattle.circuit_walk.specs.declared.course.Course.{Course}
use Rattle.circuit_walk.specs.declared.passes.Inside.{Inside}
use Rattle.circuit_walk.specs.declared.program.Text.{Text}
use Rattle.circuit_walk.specs.declared.step.Counts.{Counts}
use Rattle.circuit_walk.specs.declared.taken.Taken.{Taken}
use Rattle.circuit_walk.specs.Named.{IsStepOf}
use Rattle.circuit_walk.specs.Programs.{KeptProgram}
use Rattle.circuit_walk.specs.Steps.{listed}
use Rattle.circuit_walk.specs.Takers.{HasTaken, IsFaced}
use Rattle.circuit_walk.specs.private.Courses.{IsCourse, course_at}
use Rattle.circuit_walk.specs.private.InstructionSteps.{end_of}
use Rattle.circuit_walk.specs.private.Taken.{IsFacing, IsTaken}
use Rattle.circuit_walk.specs.private.Takings.{HasGoneOn, HasTakenSome, IsTakingAt}
use Rattle.circuit_walk.proofs.NamedSteps.{faced_named}
use Rattle.circuit_walk.specs.private.Walks.{makes_steps}
use Rattle.circuit_walk.proofs.StandLemmas.{fit_own}
use Rattle.circuit_walk.proofs.TakeLemmas.{below_end, counts_fit, inside_before, over_step, takes}

module _ {A : Type 0} (program : KeptProgram) (place : Course A) (course : IsCourse program place) (facing : place.here.at ≢ place.here.end) where
  -- a step is left
  pub is_facing : place.text.totals.steps < 2 ^ 32 → IsFacing place.here place.counts
  is_facing few =
      let h = inside_before program place course facing in
      let fit = counts_fit program place course facing few in
      record {
        instruction = h.instruction;
        before = _;
        k = h.k;
        stands = h.stands;
        there = below_end program place h facing;
        records = fit.0;
        collapses = fit.1;
        faults = fit.2;
      }

  pub few_steps : place.text.totals.steps < 2 ^ 32 → place.steps + 1 < 2 ^ 32
  few_steps few = (counts_fit program place course facing few).3

  -- it is the program's there
  pub is_listed : (taken : Taken) → IsTaken place.here place.counts taken → slice_get program.listing.steps place.steps ≡ Some (listed program.listing.qubits taken.step)
  is_listed taken is = (takes program place course facing taken.step (λ n i b k st. is.step n k i b st)).listed_is

  pub is_named : (taken : Taken) → IsTaken place.here place.counts taken → IsStepOf program taken.step
  is_named taken is =
      let h = inside_before program place course facing in
      let n = program.listing.qubits in
      faced_named program place course h taken.step (is.step n h.k h.instruction _ h.stands) is.names (is.letters n h.k h.instruction _ h.stands)

  -- and behind it is the next place
  pub is_behind : (taken : Taken) → IsTaken place.here place.counts taken → IsCourse program (record place { here = record place.here { at = taken.at }; counts = taken.counts; steps = place.steps + 1 })
  is_behind taken is =
      over_step program place taken.at taken.counts course facing taken.step (λ n i b k st. is.step n k i b st) is.place is.counts

-- a taker is handed that step
pub hands : {T A : Type 0} (stands : KeptProgram → T → ℕ → T → Type 0) (program : KeptProgram) (taker : T) (place : Course A)
    → (at : IsTakingAt stands program taker place) → (facing : place.here.at ≢ place.here.end) → (taken : Taken) → IsTaken place.here place.counts taken
    → IsFaced stands program taker taken.step
hands stands program taker place at facing taken is =
    (is_named program place at.course facing taken is, (at.stands.0, place.steps, at.stands.1, is_listed program place at.course facing taken is))

-- and has taken it
pub goes_over : {T A : Type 0} (stands : KeptProgram → T → ℕ → T → Type 0) (program : KeptProgram) (old new : T) (text : Text A) (cursor : Cursor) (inside later : Inside)
    → (at : IsTakingAt stands program old (course_at text cursor inside)) → (facing : inside.here.at ≢ inside.here.end) → (taken : Taken) → IsTaken inside.here inside.counts taken
    → (counts : Counts) → counts ≡ taken.counts → later ≡ record { here = record inside.here { at = taken.at }; counts = counts; steps = inside.steps + 1 }
    → HasTaken stands program old new taken.step
    → HasTakenSome stands program old new (course_at text cursor inside) (course_at text cursor later)
goes_over stands program old new text cursor inside later at facing taken is counts same there has =
    let place = course_at text cursor inside in
    let behind : Counts → Inside = λ counts. record { here = record inside.here { at = taken.at }; counts = counts; steps = inside.steps + 1 } in
    subst (λ i. HasTakenSome stands program old new place (course_at text cursor i)) (sym (there ∙ ap behind same))
    (record {
      gone = record {
        course = is_behind program place at.course facing taken is;
        stands = λ begun h. has begun place.steps h (is_listed program place at.course facing taken is);
      };
      on = omega arith;
      same = refl;
    })

-- ---- over faults that change nothing

pub faces_on : {T A : Type 0} (stands : KeptProgram → T → ℕ → T → Type 0) (program : KeptProgram) (old new : T) (place later : Course A)
    → IsTakingAt stands program old place → HasGoneOn stands program old new place later → IsTakingAt stands program new later
faces_on stands program old new place later at gone =
    record { course = gone.course; stands = (at.stands.0, gone.stands at.stands.0 at.stands.1) }

-- where nothing is taken yet
pub begins : {T A : Type 0} (stands : KeptProgram → T → ℕ → T → Type 0) (program : KeptProgram) (taker : T) (place : Course A)
    → IsTakingAt stands program taker place → HasGoneOn stands program taker taker place place
begins stands program taker place at = record { course = at.course; stands = λ begun h. h }

-- one after the other
pub onward : {T A : Type 0} (stands : KeptProgram → T → ℕ → T → Type 0) (program : KeptProgram) (old new newest : T) (place later latest : Course A)
    → HasGoneOn stands program old new place later → HasGoneOn stands program new newest later latest → HasGoneOn stands program old newest place latest
onward stands program old new newest place later latest gone on =
    record { course = on.course; stands = λ begun h. on.stands begun (gone.stands begun h) }

-- and then over some more
pub some_more : {T A : Type 0} (stands : KeptProgram → T → ℕ → T → Type 0) (program : KeptProgram) (old new newest : T) (place later latest : Course A)
    → HasGoneOn stands program old new place later → later.here.operation ≡ place.here.operation → place.steps ≤ later.steps
    → HasTakenSome stands program new newest later latest → HasTakenSome stands program old newest place latest
some_more stands program old new newest place later latest gone same further some =
    record {
      gone = record { course = some.gone.course; stands = λ begun h. some.gone.stands begun (gone.stands begun h) };
      on = omega (arith, further, some.on);
      same = some.same ∙ same;
    }

-- or over all that were left
pub some_passed : {T A : Type 0} (stands : KeptProgram → T → ℕ → T → Type 0) (program : KeptProgram) (old new : T) (place later : Course A)
    → IsTakingAt stands program old place → (facing : place.here.at ≢ place.here.end) → HasGoneOn stands program old new place later → later.here.operation ≡ place.here.operation
    → later.steps + place.here.at ≡ place.steps + later.here.at → later.here.end ≡ place.here.end → later.here.at ≡ later.here.end
    → HasTakenSome stands program old new place later
some_passed stands program old new place later at facing gone same on end done =
    record {
      gone = gone;
      on = omega (arith, on, end, done, below_end program place (inside_before program place at.course facing) facing);
      same = same;
    }

-- ---- instructions that make no steps

pub no_end : (o : Operation) (ts : List Target) → makes_steps o ≡ false → end_of o ts ≡ 0
no_end (Applies g) ts h = cc
no_end (Measurement l) ts h = cc
no_end (QubitReset l) ts h = cc
no_end (MeasurementReset l) ts h = cc
no_end ProductMeasurement ts h = cc
no_end (PauliError l) ts h = cc
no_end CorrelatedError ts h = cc
no_end DetectorDeclaration ts h = refl
no_end ObservableInclude ts h = refl
no_end Tick ts h = refl
no_end QubitCoordinates ts h = refl
no_end CoordinateShift ts h = refl

pub none_left : {A : Type 0} (program : KeptProgram) (place : Course A) → IsCourse program place → makes_steps place.here.operation ≡ false → place.here.at ≡ place.here.end
none_left program place course none = by_cases (nat_eq place.here.at place.here.end) refl
  where
    by_cases : (same : Bool) → nat_eq place.here.at place.here.end ≡ same → place.here.at ≡ place.here.end
    by_cases true h = eqb-true place.here.at place.here.end h
    by_cases false h =
        let facing = eqb-false place.here.at place.here.end h in
        let inside = inside_before program place course facing in
        let end = (fit_own inside.instruction place.here _ inside.stands.steps refl).end in
        absurd (omega (arith, below_end program place inside facing, end, no_end place.here.operation place.here.targets.now none))
