-- A course from one instruction to the next, and to the one before.
use Rattle.std.proofs.Common.{◌≡◌, ◌*◌, ℕ, Bool, true, false, List, [], ◌∷◌, ◌++◌, Option, None, Some, length, length-append, append-nil, refl, sym, ap, ◌∙◌, subst, arith}
use Rattle.std.specs.Prelude.{slice_get, slice_index_or}
use Rattle.cursor.specs.Moves.{Faces, GoesOver}
use Rattle.cursor.specs.Places.{StandsIn, before_of, left_of}
use Rattle.cursor.specs.declared.cursor.Cursor.{Cursor}
use Rattle.step_model.specs.declared.chances.ChanceText.{ChanceText}
use Rattle.stim_lexer.specs.Flat.{tree_of}
use Rattle.stim_lexer.specs.Trees.{InstructionLine, Item}
use Rattle.stim_parser.proofs.MarkLemmas.{marked_at}
use Rattle.stim_parser.specs.Circuits.{Fits}
use Rattle.stim_parser.specs.Probabilities.{Marks, chance_taken}
use Rattle.stim_parser.specs.Verdicts.{Instruction, circuit_table}
use Rattle.circuit_walk.specs.declared.course.Course.{Course}
use Rattle.circuit_walk.specs.declared.instruction_steps.InstructionSteps.{InstructionSteps}
use Rattle.circuit_walk.specs.declared.program.Text.{Text}
use Rattle.circuit_walk.specs.declared.step.Counts.{Counts}
use Rattle.circuit_walk.specs.Before.{Before}
use Rattle.circuit_walk.specs.Meaning.{at_start, new_steps}
use Rattle.circuit_walk.specs.Programs.{KeptProgram}
use Rattle.circuit_walk.specs.Refusals.{reaches_far}
use Rattle.circuit_walk.specs.Totals.{qubit_total}
use Rattle.circuit_walk.specs.private.Courses.{IsCourse}
use Rattle.circuit_walk.specs.private.Held.{Holds}
use Rattle.circuit_walk.specs.private.InstructionSteps.{AreStepsOf, IsAt}
use Rattle.circuit_walk.specs.Makes.{makes_faults, makes_records, one_if}
use Rattle.circuit_walk.specs.private.Walks.{AreCountsAt, IsBetween, IsInside, IsReady, is_step_maker, state_after, state_at, steps_of}
use Rattle.circuit_walk.proofs.CountLemmas.{new_faults-counted, new_records-counted}
use Rattle.circuit_walk.proofs.CourseLemmas.{AllOf, all_steps, makers_fit, makers_of, near_one, one_fits, steps_behind}
use Rattle.circuit_walk.proofs.EndLemmas.{ends}
use Rattle.circuit_walk.proofs.MeaningLemmas.{state_after-append}

pub of_between : (n : ℕ) (items : List (Item Instruction)) (cursor : Cursor) (s : InstructionSteps) (c : Counts) (place : ℕ) → IsBetween n items cursor s c place → IsReady n (before_of is_step_maker items cursor) c place
of_between n items cursor s c place h = record { records = h.records; faults = h.faults; place_is = h.place_is }

-- ---- inside an instruction, before its first step and behind its last

pub before_first : (n : ℕ) (chances : List ChanceText) (items : List (Item Instruction)) (cursor : Cursor) (s : InstructionSteps) (c : Counts) (place : ℕ) → IsInside n chances items cursor s c place → s.at ≡ 0 → IsReady n (before_of is_step_maker items cursor) c place
before_first n chances items cursor s c place h at =
    let i = h.instruction in
    let none : h.k ≡ 0 = (ends n (state_at n items cursor) i h.stands.steps.fits).first s.at h.k h.stands.place at in
    record {
      records = omega (arith, h.stands.counts.records, ap (λ k. k * one_if (makes_records i.operation)) none);
      faults = omega (arith, h.stands.counts.faults, ap (λ k. k * one_if (makes_faults i.operation s.flips)) none);
      place_is = omega (arith, h.place_is, none);
    }

pub behind_last : (n : ℕ) (chances : List ChanceText) (items : List (Item Instruction)) (cursor : Cursor) (s : InstructionSteps) (c : Counts) (place : ℕ) → (h : IsInside n chances items cursor s c place) → s.at ≡ s.end → IsReady n (before_of is_step_maker items cursor ++ h.instruction ∷ []) c place
behind_last n chances items cursor s c place h at =
    let i = h.instruction in
    let b = state_at n items cursor in
    let before = before_of is_step_maker items cursor in
    let all : h.k ≡ length (new_steps n b i) = (ends n b i h.stands.steps.fits).over s.at h.k h.stands.place (at ∙ h.stands.steps.end) in
    let flips = ap (λ f. length (new_steps n b i) * one_if (makes_faults i.operation f)) h.stands.steps.flips in
    record {
      records =
          omega (
            arith,
            h.stands.counts.records,
            ap (λ k. k * one_if (makes_records i.operation)) all,
            new_records-counted n b i,
            ap (λ (d : Before). d.records) (state_after-append n at_start before (i ∷ [])),
          );
      faults =
          omega (
            arith,
            h.stands.counts.faults,
            ap (λ k. k * one_if (makes_faults i.operation s.flips)) all,
            flips,
            new_faults-counted n b i,
            ap (λ (d : Before). d.faults) (state_after-append n at_start before (i ∷ [])),
          );
      place_is =
          omega
          (arith, h.place_is, all, ap (λ steps. length steps) (steps_behind n before i), length-append (steps_of n before) (new_steps n b i));
    }

-- ---- into an instruction

pub into_first : (n : ℕ) (chances : List ChanceText) (items : List (Item Instruction)) (cursor : Cursor) (s : InstructionSteps) (c : Counts) (place : ℕ) (i : Instruction) (rest : List Instruction) → left_of is_step_maker items cursor ≡ i ∷ rest → Faces is_step_maker items cursor.index → IsReady n (before_of is_step_maker items cursor) c place → AreStepsOf i s → s.at ≡ 0 → reaches_far (state_at n items cursor).records i.targets ≡ false → Marks chances (chance_taken circuit_table i.operation i.arguments) s.chance → IsInside n chances items cursor s c place
into_first n chances items cursor s c place i rest left faced ready steps at near marked =
    record {
      instruction = i;
      rest = rest;
      k = 0;
      left = left;
      faced = faced;
      stands = record {
        steps = steps;
        place = subst (λ p. IsAt i.operation i.targets p 0) (sym at) (ends n (state_at n items cursor) i steps.fits).start;
        counts = record { records = omega (arith, ready.records); faults = omega (arith, ready.faults) };
        near = near;
      };
      marked = marked;
      place_is = omega (arith, ready.place_is);
    }

pub into_last : (n : ℕ) (chances : List ChanceText) (items : List (Item Instruction)) (cursor : Cursor) (s : InstructionSteps) (c : Counts) (place : ℕ) (i : Instruction) (rest : List Instruction) → left_of is_step_maker items cursor ≡ i ∷ rest → Faces is_step_maker items cursor.index → IsReady n (before_of is_step_maker items cursor ++ i ∷ []) c place → AreStepsOf i s → s.at ≡ s.end → reaches_far (state_at n items cursor).records i.targets ≡ false → Marks chances (chance_taken circuit_table i.operation i.arguments) s.chance → IsInside n chances items cursor s c place
into_last n chances items cursor s c place i rest left faced ready steps at near marked =
    let b = state_at n items cursor in
    let before = before_of is_step_maker items cursor in
    let count = length (new_steps n b i) in
    let flips = ap (λ f. count * one_if (makes_faults i.operation f)) steps.flips in
    record {
      instruction = i;
      rest = rest;
      k = count;
      left = left;
      faced = faced;
      stands = record {
        steps = steps;
        place = subst (λ p. IsAt i.operation i.targets p count) (sym (at ∙ steps.end)) (ends n b i steps.fits).end;
        counts = record {
          records = omega (arith, ready.records, new_records-counted n b i, ap (λ (d : Before). d.records) (state_after-append n at_start before (i ∷ [])));
          faults = omega (arith, ready.faults, flips, new_faults-counted n b i, ap (λ (d : Before). d.faults) (state_after-append n at_start before (i ∷ [])));
        };
        near = near;
      };
      marked = marked;
      place_is =
          omega (arith, ready.place_is, ap (λ steps. length steps) (steps_behind n before i), length-append (steps_of n before) (new_steps n b i));
    }

-- ---- the instruction that a cursor is before

-- it fits, and reaches back no further than there are records
pub record IsSound {A : Type 0} (program : KeptProgram) (text : Text A) (cursor : Cursor) (i : Instruction) : Type 0 where
  pub fits : Fits i
  pub near : reaches_far (state_at program.listing.qubits text.items.now.items cursor).records i.targets ≡ false

pub sound_next : {A : Type 0} (program : KeptProgram) (text : Text A) (cursor : Cursor) (i : Instruction) (rest : List Instruction) → Holds program text → StandsIn is_step_maker text.items.now.items cursor → left_of is_step_maker text.items.now.items cursor ≡ i ∷ rest → IsSound program text cursor i
sound_next program text cursor i rest held stands left =
    let items = text.items.now.items in
    let tree = tree_of items in
    let before = before_of is_step_maker items cursor in
    let whole : before ++ i ∷ rest ≡ makers_of tree = ap (λ is. before ++ is) (sym left) ∙ stands.whole in
    let qubits : qubit_total tree ≡ program.listing.qubits = sym (ap (λ l. l.qubits) held.listing) in
    record {
      fits = one_fits before i rest (subst AllOf (sym whole) (makers_fit tree held.written.fits.fit));
      near = subst (λ n. reaches_far (state_after n at_start before).records i.targets ≡ false) qubits (near_one tree before i rest held.accepted whole);
    }

-- the mark of an item is the number of its probability
pub mark_of : {A : Type 0} (program : KeptProgram) (text : Text A) (k : ℕ) (i : Instruction) (mark : ℕ) → Holds program text → slice_get text.items.now.items k ≡ Some (InstructionLine i) → mark ≡ slice_index_or text.items.now.marks k 0 → Marks program.chances (chance_taken circuit_table i.operation i.arguments) mark
mark_of program text k i mark held got is =
    let read = text.items.now in
    let chance = chance_taken circuit_table i.operation i.arguments in
    subst (λ (m : ℕ). Marks program.chances chance m) (sym is)
    (subst (λ (texts : List ChanceText). Marks texts chance (slice_index_or read.marks k 0)) (sym held.chances_are)
    (marked_at circuit_table text.chances.now read.items read.marks k (InstructionLine i) held.kept.marked (sym got)))

-- behind all instructions all steps are
pub all_behind : {A : Type 0} (program : KeptProgram) (text : Text A) (cursor : Cursor) (counts : Counts) (place : ℕ) → Holds program text → StandsIn is_step_maker text.items.now.items cursor → left_of is_step_maker text.items.now.items cursor ≡ [] → IsReady program.listing.qubits (before_of is_step_maker text.items.now.items cursor) counts place → place ≡ length program.listing.steps
all_behind program text cursor counts place held stands left ready =
    let items = text.items.now.items in
    let tree = tree_of items in
    let before = before_of is_step_maker items cursor in
    let whole : before ++ [] ≡ makers_of tree = ap (λ is. before ++ is) (sym left) ∙ stands.whole in
    omega (
      arith,
      ready.place_is,
      ap (λ is. length (steps_of program.listing.qubits is)) (sym (append-nil before) ∙ whole),
      ap (λ l. length (steps_of l.qubits (makers_of tree))) held.listing,
      ap (λ steps. length steps) (all_steps tree),
      ap (λ l. length l.steps) held.listing,
    )

-- going over the instruction that is next
pub over_first : (items : List (Item Instruction)) (old new : Cursor) (o : Option ℕ) (i : Instruction) (rest : List Instruction) → GoesOver is_step_maker items old new o → left_of is_step_maker items old ≡ i ∷ rest → before_of is_step_maker items new ≡ before_of is_step_maker items old ++ i ∷ []
over_first items old new None i rest over left = absurd (some i rest (sym left ∙ over.0))
  where
    some : (x : Instruction) (xs : List Instruction) → x ∷ xs ≡ [] → ⊥
    some x xs e = cc
over_first items old new (Some k) i rest over left =
    over.3.before ∙ ap (λ x. before_of is_step_maker items old ++ x ∷ []) (same _ _ _ _ (sym over.3.left ∙ left))
  where
    same : (x y : Instruction) (xs ys : List Instruction) → x ∷ xs ≡ y ∷ ys → x ≡ y
    same x y xs ys e = cc

-- ---- courses

pub ready_between : {A : Type 0} (program : KeptProgram) (c : Course A) → IsCourse program c → c.inside ≡ false → IsReady program.listing.qubits (before_of is_step_maker c.text.items.now.items c.cursor) c.counts c.steps
ready_between program c h outside = of_between _ _ _ _ _ _ (h.between outside)

-- before the first step of an instruction, or between instructions
pub ready_before : {A : Type 0} (program : KeptProgram) (c : Course A) → IsCourse program c → c.here.at ≡ 0 → IsReady program.listing.qubits (before_of is_step_maker c.text.items.now.items c.cursor) c.counts c.steps
ready_before program c h at = by_side c.inside refl
  where
    by_side : (side : Bool) → c.inside ≡ side → IsReady program.listing.qubits (before_of is_step_maker c.text.items.now.items c.cursor) c.counts c.steps
    by_side true e = before_first _ _ _ _ _ _ _ (h.inside e) at
    by_side false e = ready_between program c h e

-- a course between instructions, at another cursor
pub goes_between : {A : Type 0} (program : KeptProgram) (old new : Course A) → IsCourse program old → new.text ≡ old.text → new.counts ≡ old.counts → new.steps ≡ old.steps → new.inside ≡ false → new.here.at ≡ 0 → new.here.end ≡ 0 → StandsIn is_step_maker new.text.items.now.items new.cursor → IsReady program.listing.qubits (before_of is_step_maker new.text.items.now.items new.cursor) new.counts new.steps → IsCourse program new
goes_between program old new h text counts steps outside at end stands ready =
    record {
      held = subst (λ t. Holds program t) (sym text) h.held;
      stands = stands;
      inside = λ e. absurd (both (sym e ∙ outside));
      between = λ _. record { at = at; end = end; records = ready.records; faults = ready.faults; place_is = ready.place_is };
      counted = subst (AreCountsAt program.listing.steps new.steps) (sym counts) (subst (λ p. AreCountsAt program.listing.steps p old.counts) (sym steps) h.counted);
    }
  where
    both : true ≡ false → ⊥
    both e = cc

-- a course inside an instruction
pub goes_inside : {A : Type 0} (program : KeptProgram) (old new : Course A) → IsCourse program old → new.text ≡ old.text → new.counts ≡ old.counts → new.steps ≡ old.steps → new.inside ≡ true → StandsIn is_step_maker new.text.items.now.items new.cursor → IsInside program.listing.qubits program.chances new.text.items.now.items new.cursor new.here new.counts new.steps → IsCourse program new
goes_inside program old new h text counts steps inside stands within =
    record {
      held = subst (λ t. Holds program t) (sym text) h.held;
      stands = stands;
      inside = λ _. within;
      between = λ e. absurd (both (sym inside ∙ e));
      counted = subst (AreCountsAt program.listing.steps new.steps) (sym counts) (subst (λ p. AreCountsAt program.listing.steps p old.counts) (sym steps) h.counted);
    }
  where
    both : true ≡ false → ⊥
    both e = cc
