-- A course over one step of the instruction that it is inside, forward and back.
use Rattle.std.proofs.Common.{◌≡◌, ◌≢◌, ◌≤◌, ◌<◌, ◌+◌, ◌^◌, ℕ, Bool, true, false, if◌then◌else◌, List, [], ◌∷◌, ◌++◌, length, length-append, get_or, Option, None, Some, refl, sym, ap, ◌∙◌, subst, arith}
use Rattle.std.specs.Prelude.{slice_get, take}
use Rattle.std.specs.Option.{option_to_list}
use Rattle.std.proofs.lemmas.List.{length-take}
use Rattle.std.proofs.lemmas.Option.{slice_get-get_or, slice_get_within}
use Rattle.cursor.specs.Places.{StandsIn, before_of}
use Rattle.step_model.specs.Listing.{ListedStep, One, Two, Collapse, Fault, Feedback, Recorded, is_collapse, step_records}
use Rattle.step_model.specs.WellFormed.{collapse_count, faults_named, records_made, step_faults}
use Rattle.stim_lexer.specs.Flat.{tree_of}
use Rattle.stim_parser.specs.Verdicts.{Instruction}
use Rattle.circuit_walk.specs.declared.course.Course.{Course}
use Rattle.circuit_walk.specs.declared.instruction_steps.InstructionSteps.{InstructionSteps}
use Rattle.circuit_walk.specs.declared.step.Counts.{Counts}
use Rattle.circuit_walk.specs.Before.{Before}
use Rattle.circuit_walk.specs.Meaning.{new_steps}
use Rattle.circuit_walk.specs.Programs.{KeptProgram}
use Rattle.circuit_walk.specs.Steps.{listed}
use Rattle.circuit_walk.specs.declared.step.Step.{Step}
use Rattle.circuit_walk.specs.private.Courses.{IsCourse}
use Rattle.circuit_walk.specs.private.Held.{Holds}
use Rattle.circuit_walk.specs.private.InstructionSteps.{AreCounts, AreStepsOf, IsAt, Stands, counts_behind, has_argument}
use Rattle.circuit_walk.specs.Makes.{makes_faults, makes_records, one_if}
use Rattle.circuit_walk.specs.private.Walks.{AreCountsAt, IsInside, is_step_maker, state_at, steps_of}
use Rattle.circuit_walk.proofs.CountLemmas.{MakesAs, each_at, each_new}
use Rattle.circuit_walk.proofs.CourseLemmas.{all_steps, makers_of, step_inside}
use Rattle.circuit_walk.proofs.EndLemmas.{ends}
use Rattle.circuit_walk.proofs.PlaceCounts.{counted_behind}

-- ---- the instruction

-- the instruction that a course is inside, in its words
abbrev pub InsideOf : {A : Type 0} → KeptProgram → Course A → Type 0
InsideOf program c = IsInside program.listing.qubits program.chances c.text.items.now.items c.cursor c.here c.counts c.steps

-- where the place isn't the end, or isn't the start, the course is inside an instruction
pub is_inside_before : {A : Type 0} (program : KeptProgram) (c : Course A) → IsCourse program c → c.here.at ≢ c.here.end → c.inside ≡ true
is_inside_before program c h facing = by_side c.inside refl
  where
    by_side : (side : Bool) → c.inside ≡ side → c.inside ≡ true
    by_side true e = e
    by_side false e = absurd (facing ((h.between e).at ∙ sym (h.between e).end))

pub is_inside_behind : {A : Type 0} (program : KeptProgram) (c : Course A) → IsCourse program c → 0 < c.here.at → c.inside ≡ true
is_inside_behind program c h facing = by_side c.inside refl
  where
    by_side : (side : Bool) → c.inside ≡ side → c.inside ≡ true
    by_side true e = e
    by_side false e = absurd (omega (arith, facing, (h.between e).at))

pub inside_before : {A : Type 0} (program : KeptProgram) (c : Course A) → IsCourse program c → c.here.at ≢ c.here.end → InsideOf program c
inside_before program c h facing = h.inside (is_inside_before program c h facing)

pub inside_behind : {A : Type 0} (program : KeptProgram) (c : Course A) → IsCourse program c → 0 < c.here.at → InsideOf program c
inside_behind program c h facing = h.inside (is_inside_behind program c h facing)

pub below_end : {A : Type 0} (program : KeptProgram) (c : Course A) → (h : InsideOf program c) → c.here.at ≢ c.here.end → c.here.at < c.here.end
below_end program c h facing =
    let within = (ends 0 (state_at program.listing.qubits c.text.items.now.items c.cursor) h.instruction h.stands.steps.fits).within c.here.at h.k h.stands.place in
    omega (arith, within, h.stands.steps.end, facing)

-- ---- the step with a number

pub step_at : {A : Type 0} (program : KeptProgram) (c : Course A) → IsCourse program c → (h : InsideOf program c) → (k : ℕ) (s : ListedStep) → slice_get (new_steps program.listing.qubits (state_at program.listing.qubits c.text.items.now.items c.cursor) h.instruction) k ≡ Some s → slice_get program.listing.steps (length (steps_of program.listing.qubits (before_of is_step_maker c.text.items.now.items c.cursor)) + k) ≡ Some s
step_at program c course h k s got =
    let items = c.text.items.now.items in
    let n = program.listing.qubits in
    let tree = tree_of items in
    let before = before_of is_step_maker items c.cursor in
    let whole : before ++ h.instruction ∷ h.rest ≡ makers_of tree = ap (λ is. before ++ is) (sym h.left) ∙ course.stands.whole in
    let all : program.listing.steps ≡ steps_of n (before ++ h.instruction ∷ h.rest) =
    ap (λ l. l.steps) course.held.listing ∙ all_steps tree
    ∙ ap (λ m. steps_of m (makers_of tree)) (sym (ap (λ l. l.qubits) course.held.listing))
    ∙ ap (steps_of n) (sym whole) in
    ap (λ steps. slice_get steps (length (steps_of n before) + k)) all ∙ step_inside n before h.instruction h.rest k s got

-- where the place isn't the end, a step is there
pub step_there : {A : Type 0} (program : KeptProgram) (c : Course A) → IsCourse program c → c.here.at ≢ c.here.end → c.steps < length program.listing.steps
step_there program c course facing =
    let h = inside_before program c course facing in
    let n = program.listing.qubits in
    let b = state_at n c.text.items.now.items c.cursor in
    let below = below_end program c h facing in
    let inside = (ends n b h.instruction h.stands.steps.fits).inside c.here.at h.k h.stands.place (omega (arith, below, h.stands.steps.end)) in
    let made = new_steps n b h.instruction in
    let s = get_or made h.k (Fault 0) in
    let got = step_at program c course h h.k s (slice_get-get_or made h.k (Fault 0) inside) in
    slice_get_within program.listing.steps c.steps s (subst (λ p. slice_get program.listing.steps p ≡ Some s) (sym h.place_is) got)

-- ---- no more records, collapses and faults than steps

pub record AreFew (steps : List ListedStep) : Type 0 where
  pub records : length (records_made steps) ≤ length steps
  pub collapses : collapse_count steps ≤ length steps
  pub faults : length (faults_named steps) ≤ length steps

record IsFew (s : ListedStep) : Type 0 where
  pub records : length (step_records s) ≤ 1
  pub collapses : (if is_collapse s then 1 else 0) ≤ 1
  pub faults : length (step_faults s) ≤ 1

few_of : (r : Recorded) (flip : Option ℕ) → length (option_to_list flip) ≤ 1
few_of r None = omega arith
few_of r (Some f) = omega arith

is_few : (s : ListedStep) → IsFew s
is_few (One g q) = record { records = omega arith; collapses = omega arith; faults = omega arith }
is_few (Two g a b) = record { records = omega arith; collapses = omega arith; faults = omega arith }
is_few (Collapse m None) = record { records = omega arith; collapses = omega arith; faults = omega arith }
is_few (Collapse m (Some r)) = record { records = omega arith; collapses = omega arith; faults = few_of r r.flip }
is_few (Fault f) = record { records = omega arith; collapses = omega arith; faults = omega arith }
is_few (Feedback w r) = record { records = omega arith; collapses = omega arith; faults = omega arith }

pub are_few : (steps : List ListedStep) → AreFew steps
are_few [] = record { records = omega arith; collapses = omega arith; faults = omega arith }
are_few (s ∷ steps) =
    let one = is_few s in
    let more = are_few steps in
    record {
      records = omega (arith, one.records, more.records, length-append (step_records s) (records_made steps));
      collapses = omega (arith, one.collapses, more.collapses);
      faults = omega (arith, one.faults, more.faults, length-append (step_faults s) (faults_named steps));
    }

pub counts_few : (steps : List ListedStep) (place : ℕ) (c : Counts) → AreCountsAt steps place c → (c.records ≤ place) × (c.collapses ≤ place) × (c.faults ≤ place)
counts_few steps place c h =
    let few = are_few (take place steps) in
    let taken : length (take place steps) ≤ place = omega (arith, length-take place steps) in
    (omega (arith, few.records, taken, h.records), omega (arith, few.collapses, taken, h.collapses), omega (arith, few.faults, taken, h.faults))

-- ---- over the step

pub counts_next : (b : Before) (i : Instruction) (s : InstructionSteps) (c : Counts) (k : ℕ) → AreStepsOf i s → AreCounts b i.operation s.flips k c → AreCounts b i.operation s.flips (k + 1) (counts_behind s.operation s.flips c)
counts_next b i s c k steps h =
    record {
      records = omega (arith, h.records, ap (λ o. one_if (makes_records o)) steps.operation);
      faults = omega (arith, h.faults, ap (λ o. one_if (makes_faults o s.flips)) steps.operation);
    }

pub makes_own : (n : ℕ) (b : Before) (i : Instruction) (s : InstructionSteps) (k : ℕ) (step : ListedStep) → AreStepsOf i s → slice_get (new_steps n b i) k ≡ Some step → MakesAs s.operation s.flips step
makes_own n b i s k step steps got =
    subst (λ o. MakesAs o s.flips step) (sym steps.operation)
    (subst (λ f. MakesAs i.operation f step) (sym steps.flips) (each_at (MakesAs i.operation (has_argument i)) (new_steps n b i) k step (each_new n b i) got))

-- what is known of the step that a course takes
pub record Takes {A : Type 0} (program : KeptProgram) (c : Course A) (step : Step) : Type 0 where
  pub inside : InsideOf program c
  pub made : slice_get (new_steps program.listing.qubits (state_at program.listing.qubits c.text.items.now.items c.cursor) inside.instruction) inside.k ≡ Some (listed program.listing.qubits step)
  pub listed_is : slice_get program.listing.steps c.steps ≡ Some (listed program.listing.qubits step)
  pub there : c.steps < length program.listing.steps
  pub makes : MakesAs c.here.operation c.here.flips (listed program.listing.qubits step)

pub takes : {A : Type 0} (program : KeptProgram) (c : Course A) → IsCourse program c → c.here.at ≢ c.here.end → (step : Step) → ((n : ℕ) (i : Instruction) (b : Before) (k : ℕ) → Stands i b c.here c.counts k → slice_get (new_steps n b i) k ≡ Some (listed n step)) → Takes program c step
takes program c course facing step is =
    let h = inside_before program c course facing in
    let n = program.listing.qubits in
    let b = state_at n c.text.items.now.items c.cursor in
    let made = is n h.instruction b h.k h.stands in
    let got = subst (λ p. slice_get program.listing.steps p ≡ Some (listed n step)) (sym h.place_is) (step_at program c course h h.k (listed n step) made) in
    record {
      inside = h;
      made = made;
      listed_is = got;
      there = slice_get_within program.listing.steps c.steps (listed n step) got;
      makes = makes_own n b h.instruction c.here h.k (listed n step) h.stands.steps made;
    }

-- a course at another place of the same instruction
pub goes_on : {A : Type 0} (program : KeptProgram) (old new : Course A) → IsCourse program old → new.inside ≡ true → new.text ≡ old.text → new.cursor ≡ old.cursor → InsideOf program new → AreCountsAt program.listing.steps new.steps new.counts → IsCourse program new
goes_on program old new course inside text cursor within counted =
    record {
      held = subst (λ t. Holds program t) (sym text) course.held;
      stands = subst (λ d. StandsIn is_step_maker new.text.items.now.items d) (sym cursor) (subst (λ t. StandsIn is_step_maker t.items.now.items old.cursor) (sym text) course.stands);
      inside = λ _. within;
      between = λ e. absurd (both (sym inside ∙ e));
      counted = counted;
    }
  where
    both : true ≡ false → ⊥
    both e = cc

-- so the counts behind it fit 32 bits
pub counts_fit : {A : Type 0} (program : KeptProgram) (c : Course A) → IsCourse program c → c.here.at ≢ c.here.end → c.text.totals.steps < 2 ^ 32 → (c.counts.records + 1 < 2 ^ 32) × (c.counts.collapses + 1 < 2 ^ 32) × (c.counts.faults + 1 < 2 ^ 32) × (c.steps + 1 < 2 ^ 32)
counts_fit program c course facing few =
    let there = step_there program c course facing in
    let fewer = counts_few program.listing.steps c.steps c.counts course.counted in
    let total : c.text.totals.steps ≡ length program.listing.steps = course.held.totals_are.steps ∙ sym (ap (λ l. length l.steps) course.held.listing) in
    (omega (arith, there, fewer.0, total, few), omega (arith, there, fewer.1, total, few), omega (arith, there, fewer.2, total, few), omega (arith, there, total, few))

-- behind a step the course is at the next place of the same instruction
pub over_step : {A : Type 0} (program : KeptProgram) (old : Course A) (at : ℕ) (counts : Counts) → IsCourse program old → (facing : old.here.at ≢ old.here.end) → (step : Step)
    → ((n : ℕ) (i : Instruction) (b : Before) (k : ℕ) → Stands i b old.here old.counts k → slice_get (new_steps n b i) k ≡ Some (listed n step))
    → ((k : ℕ) (i : Instruction) → AreStepsOf i old.here → IsAt i.operation i.targets old.here.at k → IsAt i.operation i.targets at (k + 1))
    → counts ≡ counts_behind old.here.operation old.here.flips old.counts
    → IsCourse program (record old { here = record old.here { at = at }; counts = counts; steps = old.steps + 1 })
over_step program old at counts course facing step is place counts_are =
    let taken = takes program old course facing step is in
    let h = taken.inside in
    let steps = h.stands.steps in
    goes_on program old _ course (is_inside_before program old course facing) refl refl
    (record {
      instruction = h.instruction;
      rest = h.rest;
      k = h.k + 1;
      left = h.left;
      faced = h.faced;
      stands = record {
        steps = record { operation = steps.operation; targets = steps.targets; flips = steps.flips; end = steps.end; fits = steps.fits };
        place = place h.k h.instruction steps h.stands.place;
        counts = subst (AreCounts _ h.instruction.operation old.here.flips (h.k + 1)) (sym counts_are) (counts_next _ h.instruction old.here old.counts h.k steps h.stands.counts);
        near = h.stands.near;
      };
      marked = h.marked;
      place_is = omega (arith, h.place_is);
    })
    (subst (AreCountsAt program.listing.steps (old.steps + 1)) (sym counts_are) (counted_behind program.listing.steps old.steps _ old.here.operation old.here.flips old.counts taken.listed_is taken.makes course.counted))
