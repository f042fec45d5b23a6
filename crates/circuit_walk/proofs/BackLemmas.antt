-- A course back over the step before its place.
use Rattle.std.proofs.Common.{◌≡◌, ◌≢◌, ◌≤◌, ◌<◌, ◌+◌, ◌-◌, ◌⊎◌, inl, inr, ℕ, zero, suc, length, get_or, Some, refl, sym, ap, ◌∙◌, subst, arith}
use Rattle.std.specs.Prelude.{slice_get}
use Rattle.std.proofs.lemmas.Bool.{cases_lt}
use Rattle.std.proofs.lemmas.Option.{slice_get-get_or, slice_get_within}
use Rattle.cursor.specs.Places.{before_of}
use Rattle.step_model.specs.Listing.{ListedStep, Fault}
use Rattle.stim_parser.specs.Verdicts.{Instruction}
use Rattle.circuit_walk.specs.declared.course.Course.{Course}
use Rattle.circuit_walk.specs.declared.instruction_steps.InstructionSteps.{InstructionSteps}
use Rattle.circuit_walk.specs.declared.step.Counts.{Counts}
use Rattle.circuit_walk.specs.Before.{Before}
use Rattle.circuit_walk.specs.Meaning.{new_steps}
use Rattle.circuit_walk.specs.Programs.{KeptProgram}
use Rattle.circuit_walk.specs.private.Courses.{IsCourse}
use Rattle.circuit_walk.specs.private.InstructionSteps.{AreCounts, AreStepsOf, IsAt, Stands, counts_behind}
use Rattle.circuit_walk.specs.Makes.{makes_faults, makes_records, one_if}
use Rattle.circuit_walk.specs.private.Walks.{AreCountsAt, is_step_maker, state_at, steps_of}
use Rattle.circuit_walk.proofs.CountLemmas.{MakesAs}
use Rattle.circuit_walk.proofs.EndLemmas.{ends}
use Rattle.circuit_walk.proofs.PlaceCounts.{counted_before, counts_are as are_counts, counts_of}
use Rattle.circuit_walk.proofs.TakeLemmas.{InsideOf, goes_on, inside_behind, is_inside_behind, makes_own, step_at}

-- a place behind the start is behind a step
pub behind_some : {A : Type 0} (program : KeptProgram) (c : Course A) → IsCourse program c → 0 < c.here.at → (h : InsideOf program c) → (k : ℕ) × (h.k ≡ k + 1)
behind_some program c course facing h = by_number h.k refl
  where
    started : (k : ℕ) → h.k ≡ k → IsAt h.instruction.operation h.instruction.targets c.here.at k
    started k e = subst (IsAt h.instruction.operation h.instruction.targets c.here.at) e h.stands.place

    by_number : (k : ℕ) → h.k ≡ k → (k : ℕ) × (h.k ≡ k + 1)
    by_number (suc k) e = (k, omega (arith, e))
    by_number zero e =
        absurd (omega (arith, facing, (ends 0 (state_at program.listing.qubits c.text.items.now.items c.cursor) h.instruction h.stands.steps.fits).zero_at c.here.at (started zero e)))

-- the step before a place, and the counts before it
pub record TakesBack {A : Type 0} (program : KeptProgram) (c : Course A) : Type 0 where
  pub inside : InsideOf program c
  pub k : ℕ
  pub number : inside.k ≡ k + 1
  pub step : ListedStep
  pub made : slice_get (new_steps program.listing.qubits (state_at program.listing.qubits c.text.items.now.items c.cursor) inside.instruction) k ≡ Some step
  pub place : ℕ
  pub place_is : c.steps ≡ place + 1
  pub listed_is : slice_get program.listing.steps place ≡ Some step
  pub makes : MakesAs c.here.operation c.here.flips step
  pub counts_are : c.counts ≡ counts_behind c.here.operation c.here.flips (counts_of program.listing.steps place)

pub takes_back : {A : Type 0} (program : KeptProgram) (c : Course A) → IsCourse program c → 0 < c.here.at → TakesBack program c
takes_back program c course facing =
    let h = inside_behind program c course facing in
    let n = program.listing.qubits in
    let b = state_at n c.text.items.now.items c.cursor in
    let i = h.instruction in
    let k = behind_some program c course facing h in
    let all = ends n b i h.stands.steps.fits in
    let there : k.0 < length (new_steps n b i) = omega (arith, k.1, all.few c.here.at h.k h.stands.place) in
    let step = get_or (new_steps n b i) k.0 (Fault 0) in
    let made = slice_get-get_or (new_steps n b i) k.0 (Fault 0) there in
    let got = step_at program c course h k.0 step made in
    let makes = makes_own n b i c.here k.0 step h.stands.steps made in
    let place = length (steps_of n (before_of is_step_maker c.text.items.now.items c.cursor)) + k.0 in
    let next : c.steps ≡ place + 1 = omega (arith, h.place_is, k.1) in
    record {
      inside = h;
      k = k.0;
      number = k.1;
      step = step;
      made = made;
      place = place;
      place_is = next;
      listed_is = got;
      makes = makes;
      counts_are = counted_before program.listing.steps place step c.here.operation c.here.flips c.counts got makes (subst (λ p. AreCountsAt program.listing.steps p c.counts) next course.counted);
    }

-- the counts of an instruction before its step
pub counts_back : (b : Before) (i : Instruction) (s : InstructionSteps) (c d : Counts) (k : ℕ) → AreStepsOf i s → AreCounts b i.operation s.flips (k + 1) c → c ≡ counts_behind s.operation s.flips d → AreCounts b i.operation s.flips k d
counts_back b i s c d k steps h is =
    record {
      records = omega (arith, h.records, ap (λ (x : Counts). x.records) is, ap (λ o. one_if (makes_records o)) steps.operation);
      faults = omega (arith, h.faults, ap (λ (x : Counts). x.faults) is, ap (λ o. one_if (makes_faults o s.flips)) steps.operation);
    }

-- the steps of an instruction at another place
abbrev pub steps_at : InstructionSteps → ℕ → InstructionSteps
steps_at s at =
    record { operation = s.operation; targets = s.targets; chance = s.chance; flips = s.flips; at = at; end = s.end }

-- it stands before the step then
pub stands_back : {A : Type 0} (program : KeptProgram) (c : Course A) (back : TakesBack program c) (at : ℕ) (counts : Counts) → (AreStepsOf back.inside.instruction c.here → IsAt back.inside.instruction.operation back.inside.instruction.targets c.here.at (back.k + 1) → IsAt back.inside.instruction.operation back.inside.instruction.targets at back.k) → counts ≡ counts_of program.listing.steps back.place → Stands back.inside.instruction (state_at program.listing.qubits c.text.items.now.items c.cursor) (steps_at c.here at) counts back.k
stands_back program c back at counts place is =
    let h = back.inside in
    let steps = h.stands.steps in
    let i = h.instruction in
    let b = state_at program.listing.qubits c.text.items.now.items c.cursor in
    record {
      steps = record { operation = steps.operation; targets = steps.targets; flips = steps.flips; end = steps.end; fits = steps.fits };
      place = place steps (subst (IsAt i.operation i.targets c.here.at) back.number h.stands.place);
      counts = counts_back b i c.here c.counts counts back.k steps (subst (λ k. AreCounts b i.operation c.here.flips k c.counts) back.number h.stands.counts) (back.counts_are ∙ ap (counts_behind c.here.operation c.here.flips) (sym is));
      near = h.stands.near;
    }

pub below : {A : Type 0} (program : KeptProgram) (c : Course A) (back : TakesBack program c) (at : ℕ) → (AreStepsOf back.inside.instruction c.here → IsAt back.inside.instruction.operation back.inside.instruction.targets c.here.at (back.k + 1) → IsAt back.inside.instruction.operation back.inside.instruction.targets at back.k) → at < c.here.end
below program c back at place =
    let h = back.inside in
    let i = h.instruction in
    let all = ends program.listing.qubits (state_at program.listing.qubits c.text.items.now.items c.cursor) i h.stands.steps.fits in
    let is_at = place h.stands.steps (subst (IsAt i.operation i.targets c.here.at) back.number h.stands.place) in
    by_order (cases_lt at c.here.end) (λ e. all.over at back.k is_at (omega (arith, e, h.stands.steps.end, all.within at back.k is_at))) (slice_get_within _ back.k _ back.made)
  where
    by_order : {count : ℕ} → (at < c.here.end) ⊎ (c.here.end ≤ at) → (c.here.end ≤ at → back.k ≡ count) → back.k < count → at < c.here.end
    by_order (inl lt) over there = lt
    by_order (inr le) over there = absurd (omega (arith, over le, there))

-- so the course stands there
module _ {A : Type 0} (program : KeptProgram) (c : Course A) (course : IsCourse program c) (facing : 0 < c.here.at) (at : ℕ) (counts : Counts)
    (place : (k : ℕ) (i : Instruction) → AreStepsOf i c.here → IsAt i.operation i.targets c.here.at (k + 1) → IsAt i.operation i.targets at k)
    (before : (d : Counts) → c.counts ≡ counts_behind c.here.operation c.here.flips d → counts ≡ d) where
  pub is_earlier : IsCourse program (record c { here = steps_at c.here at; counts = counts; steps = c.steps - 1 })
  is_earlier =
      let back = takes_back program c course facing in
      let h = back.inside in
      let same = before _ back.counts_are in
      let there : c.steps - 1 ≡ back.place = omega (arith, back.place_is) in
      goes_on program c _ course (is_inside_behind program c course facing) refl refl
      (record {
        instruction = h.instruction;
        rest = h.rest;
        k = back.k;
        left = h.left;
        faced = h.faced;
        stands = stands_back program c back at counts (place back.k h.instruction) same;
        marked = h.marked;
        place_is = omega (arith, h.place_is, back.number);
      })
      (subst (λ p. AreCountsAt program.listing.steps p counts) (sym there) (subst (AreCountsAt program.listing.steps back.place) (sym same) (are_counts program.listing.steps back.place)))

  pub is_not_last : at ≢ c.here.end
  is_not_last e =
      let back = takes_back program c course facing in
      omega (arith, e, below program c back at (place back.k back.inside.instruction))
