-- A course that goes back over whole turns of a block.
use Rattle.std.proofs.Common.{◌≡◌, ℕ, zero, suc, ◌+◌, ◌-◌, ◌*◌, ◌<◌, ◌≤◌, ◌⊎◌, inl, inr, true, false, List, [], ◌∷◌, ◌++◌, length, length-append, take, sym, ap, ap₂, subst, ◌∙◌, append_assoc, append-nil, mul-add, arith}
use Rattle.std.proofs.lemmas.Bool.{cases_lt}
use Rattle.cursor.specs.Moves.{Faces}
use Rattle.cursor.specs.Iterations.{GoesBackBy}
use Rattle.cursor.specs.Places.{StandsIn, before_of, left_of}
use Rattle.cursor.specs.declared.cursor.Cursor.{Cursor}
use Rattle.step_model.specs.WellFormed.{collapse_count, faults_named, records_made}
use Rattle.stim_lexer.specs.Flat.{tree_of}
use Rattle.stim_lexer.specs.Reached.{copies}
use Rattle.stim_lexer.specs.Trees.{Item, items_of}
use Rattle.stim_parser.specs.declared.operation.Operation.{Operation}
use Rattle.stim_parser.specs.declared.operation.Operation.TheVariants as operation
use Rattle.stim_parser.specs.declared.table.Keyword.TheVariants.{Does}
use Rattle.stim_parser.specs.declared.target.Target.{Target}
use Rattle.stim_parser.specs.Circuits.{Fits}
use Rattle.stim_parser.specs.Instructions.{target_form}
use Rattle.stim_parser.specs.Limits.{are_of_form, are_products}
use Rattle.stim_parser.specs.Verdicts.{Instruction}
use Rattle.circuit_walk.specs.Before.{Before}
use Rattle.circuit_walk.specs.Makes.{makes_faults, makes_records, one_if}
use Rattle.circuit_walk.specs.Meaning.{at_start, made_of, new_faults, new_steps}
use Rattle.circuit_walk.specs.Programs.{KeptProgram}
use Rattle.circuit_walk.specs.Totals.{qubit_total}
use Rattle.circuit_walk.specs.Turns.{Repeat, RepeatFaults}
use Rattle.circuit_walk.specs.Walks.{faults_before, records_before}
use Rattle.circuit_walk.specs.declared.course.Course.{Course}
use Rattle.circuit_walk.specs.declared.instruction_steps.InstructionSteps.{InstructionSteps}
use Rattle.circuit_walk.specs.declared.program.Text.{Text}
use Rattle.circuit_walk.specs.declared.step.Counts.{Counts}
use Rattle.circuit_walk.specs.private.Courses.{IsCourse}
use Rattle.circuit_walk.specs.private.Held.{Holds}
use Rattle.circuit_walk.specs.private.InstructionSteps.{IsAt, has_argument, product_words}
use Rattle.circuit_walk.specs.private.Turns.{Again, GrowBy, GrowsBy, count_back, counts_back}
use Rattle.circuit_walk.specs.private.Walks.{AreCountsAt, IsInside, is_step_maker, state_after, steps_of}
use Rattle.circuit_walk.proofs.CourseLemmas.{AllOf, all_steps, makers_fit, makers_of}
use Rattle.circuit_walk.proofs.EndLemmas.{ends, same_of}
use Rattle.circuit_walk.proofs.MeaningLemmas.{made_of-append, state_after-append}
use Rattle.circuit_walk.proofs.MoveLemmas.{sound_next}
use Rattle.circuit_walk.proofs.MovedLists.{AreNear, copies_grow, copies_number, fit_behind, fit_first, grow, makers_near, step_number}
use Rattle.circuit_walk.proofs.ProductPlaces.{place_later, place_of}
use Rattle.circuit_walk.proofs.StandLemmas.{products_of_form}
use Rattle.circuit_walk.proofs.StartLemmas.{all_faults, state_faults, state_records}
use Rattle.circuit_walk.proofs.TurnCounts.{counts_collapses, counts_faults, counts_records, goes_back_by}
use Rattle.circuit_walk.proofs.TurnRepeats.{AreTurns, faults_repeat, repeats}

-- ---- a place is behind so many steps, and no other number

further : (ts : List Target) (d k : ℕ) → are_products ts ≡ true → k + suc d ≤ length (product_words ts) → place_of ts k < place_of ts (k + suc d)
further ts zero k form le =
    let next : suc k ≡ k + 1 = omega arith in
    subst (λ j. place_of ts k < place_of ts j) next (place_later ts k form (omega (arith, le)))
further ts (suc d) k form le =
    let next : suc (k + suc d) ≡ k + suc (suc d) = omega arith in
    let more = place_later ts (k + suc d) form (omega (arith, le)) in
    omega (arith, further ts d k form (omega (arith, le)), more, ap (place_of ts) next)

product_number : (ts : List Target) (k m : ℕ) → are_products ts ≡ true → k ≤ length (product_words ts) → m ≤ length (product_words ts) → place_of ts k ≡ place_of ts m → k ≡ m
product_number ts k m form low high same = by_order (cases_lt k m) (cases_lt m k)
  where
    by_order : (k < m) ⊎ (m ≤ k) → (m < k) ⊎ (k ≤ m) → k ≡ m
    by_order (inl lt) other =
        let d = m - suc k in
        let e : k + suc d ≡ m = omega (arith, lt) in
        let more = further ts d k form (omega (arith, e, high)) in
        absurd (omega (arith, more, ap (place_of ts) e, same))
    by_order (inr le) (inl lt) =
        let d = k - suc m in
        let e : m + suc d ≡ k = omega (arith, lt) in
        let more = further ts d m form (omega (arith, e, low)) in
        absurd (omega (arith, more, ap (place_of ts) e, same))
    by_order (inr le) (inr ge) = omega (arith, le, ge)

number_of : (o : Operation) (ts : List Target) (at k m : ℕ) → are_of_form (target_form (Does o)) ts ≡ true → IsAt o ts at k → IsAt o ts at m → k ≡ m
number_of (operation.Applies g) ts at k m form h j = same_of g k m (sym h.0 ∙ j.0)
number_of (operation.Measurement l) ts at k m form h j = sym h.0 ∙ j.0
number_of (operation.QubitReset l) ts at k m form h j = sym h.0 ∙ j.0
number_of (operation.MeasurementReset l) ts at k m form h j = sym h.0 ∙ j.0
number_of operation.ProductMeasurement ts at k m form h j = product_number ts k m (products_of_form ts form) h.1 j.1 (sym h.0 ∙ j.0)
number_of (operation.PauliError l) ts at k m form h j = sym h.0 ∙ j.0
number_of operation.CorrelatedError ts at k m form h j = sym h.0 ∙ j.0
number_of operation.DetectorDeclaration ts at k m form h j = sym h.0 ∙ j.0
number_of operation.ObservableInclude ts at k m form h j = sym h.0 ∙ j.0
number_of operation.Tick ts at k m form h j = sym h.0 ∙ j.0
number_of operation.QubitCoordinates ts at k m form h j = sym h.0 ∙ j.0
number_of operation.CoordinateShift ts at k m form h j = sym h.0 ∙ j.0

-- ---- two texts of a program

same_first : {X : Type 0} (x y : X) (xs ys : List X) → x ∷ xs ≡ y ∷ ys → x ≡ y
same_first x y xs ys e = cc

pub same_items : {A : Type 0} (program : KeptProgram) (text other : Text A) → Holds program text → Holds program other → other.items.now.items ≡ text.items.now.items
same_items program text other h j =
    sym j.written.written ∙ ap items_of (sym j.circuit ∙ h.circuit) ∙ h.written.written

-- ---- a course and the same one turn later

module _ {A : Type 0} (program : KeptProgram) (text : Text A) (here far new : Cursor) (s t : InstructionSteps) (c d : Counts) (place later count : ℕ) where
  -- a place inside an instruction, the same place one turn later, and a cursor so many turns earlier
  pub record AreApart : Type 0 where
    pub held : Holds program text
    pub stands : StandsIn is_step_maker text.items.now.items here
    pub stands_later : StandsIn is_step_maker text.items.now.items far
    pub stands_new : StandsIn is_step_maker text.items.now.items new
    pub inside : IsInside program.listing.qubits program.chances text.items.now.items here s c place
    pub inside_later : IsInside program.listing.qubits program.chances text.items.now.items far t d later
    pub at_is : t.at ≡ s.at
    pub counted : AreCountsAt program.listing.steps place c
    pub counted_later : AreCountsAt program.listing.steps later d
    pub back : GoesBackBy is_step_maker text.items.now.items here far new count

  -- what holds of the place so many turns earlier
  pub record TurnsBack : Type 0 where
    pub enough : count * (later - place) ≤ place
    pub few : place ≤ length program.listing.steps
    pub grow : GrowBy c d count
    pub inside : IsInside program.listing.qubits program.chances text.items.now.items new s (counts_back c d count) (place - count * (later - place))
    pub counted : AreCountsAt program.listing.steps (place - count * (later - place)) (counts_back c d count)
    pub again : Again program (place - count * (later - place)) place later

  module _ (h : AreApart) where
    abbrev items : List (Item Instruction)
    items = text.items.now.items

    abbrev makers : List Instruction
    makers = makers_of (tree_of items)

    abbrev front : List Instruction
    front = before_of is_step_maker items new

    abbrev turn : List Instruction
    turn = h.back.iteration

    abbrev next : Instruction
    next = h.back.next

    qubits : qubit_total (tree_of items) ≡ program.listing.qubits
    qubits = sym (ap (λ l. l.qubits) h.held.listing)

    turns : AreTurns program.listing makers front turn count next h.back.rest h.back.rest_later
    unfolding qubits
    turns =
        record {
          steps_are = ap (λ l. l.steps) h.held.listing ∙ all_steps (tree_of items) ∙ ap (λ m. steps_of m makers) qubits;
          faults_are = ap (λ l. l.faults) h.held.listing ∙ all_faults (tree_of items) ∙ ap (λ m. made_of m (new_faults m) at_start makers) qubits;
          fit = makers_fit (tree_of items) h.held.written.fits.fit;
          near = subst (λ m. AreNear m at_start makers) qubits (makers_near (tree_of items) h.held.accepted);
          now =
              sym h.stands.whole
              ∙ ap₂ (λ (xs ys : List Instruction). xs ++ ys) h.back.before h.back.left
              ∙ append_assoc front (copies count turn) (next ∷ h.back.rest);
          later =
              sym h.stands_later.whole
              ∙ ap₂ (λ (xs ys : List Instruction). xs ++ ys) (h.back.before_later ∙ ap (λ (xs : List Instruction). xs ++ turn) h.back.before) h.back.left_later
              ∙ ap (λ (xs : List Instruction). xs ++ next ∷ h.back.rest_later) (append_assoc front (copies count turn) turn)
              ∙ append_assoc front (copies count turn ++ turn) (next ∷ h.back.rest_later);
        }

    -- ---- the instruction

    same_now : h.inside.instruction ≡ next
    same_now = same_first _ _ _ _ (sym h.inside.left ∙ h.back.left)

    same_later : h.inside_later.instruction ≡ h.inside.instruction
    same_later = same_first _ _ _ _ (sym h.inside_later.left ∙ h.back.left_later) ∙ sym same_now

    same_number : h.inside_later.k ≡ h.inside.k
    same_number =
        let i = h.inside.instruction in
        let there = subst (λ (j : Instruction). IsAt j.operation j.targets t.at h.inside_later.k) same_later h.inside_later.stands.place in
        number_of i.operation i.targets s.at h.inside_later.k h.inside.k h.inside.stands.steps.fits.targets
        (subst (λ at. IsAt i.operation i.targets at h.inside_later.k) h.at_is there) h.inside.stands.place

    -- ---- the turns fit

    behind_fit : AllOf (copies count turn ++ next ∷ h.back.rest)
    behind_fit = fit_behind front (copies count turn ++ next ∷ h.back.rest) (subst AllOf turns.now turns.fit)

    later_fit : AllOf ((copies count turn ++ turn) ++ next ∷ h.back.rest_later)
    later_fit = fit_behind front ((copies count turn ++ turn) ++ next ∷ h.back.rest_later) (subst AllOf turns.later turns.fit)

    turn_fits : AllOf turn
    turn_fits = fit_behind (copies count turn) turn (fit_first (copies count turn ++ turn) (next ∷ h.back.rest_later) later_fit)

    next_fits : Fits next
    next_fits = (fit_behind (copies count turn) (next ∷ h.back.rest) behind_fit).0

    -- ---- places

    abbrev b : Before
    b = state_after program.listing.qubits at_start front

    abbrev b_here : Before
    b_here = state_after program.listing.qubits at_start (before_of is_step_maker items here)

    abbrev b_far : Before
    b_far = state_after program.listing.qubits at_start (before_of is_step_maker items far)

    here_is : b_here ≡ state_after program.listing.qubits b (copies count turn)
    here_is = ap (state_after program.listing.qubits at_start) h.back.before ∙ state_after-append program.listing.qubits at_start front (copies count turn)

    far_is : b_far ≡ state_after program.listing.qubits b_here turn
    far_is = ap (state_after program.listing.qubits at_start) h.back.before_later ∙ state_after-append program.listing.qubits at_start (before_of is_step_maker items here) turn

    abbrev p : ℕ
    p = length (made_of program.listing.qubits (new_steps program.listing.qubits) b turn)

    abbrev start : ℕ
    start = length (steps_of program.listing.qubits front)

    place_is : place ≡ start + h.inside.k + count * p
    place_is =
        let q = program.listing.qubits in
        omega (
          arith,
          h.inside.place_is,
          ap (λ is. length (steps_of q is)) h.back.before,
          ap (λ steps. length steps) (made_of-append q (new_steps q) at_start front (copies count turn)),
          length-append (steps_of q front) (made_of q (new_steps q) b (copies count turn)),
          copies_number q count b b turn turn_fits,
        )

    later_is : later ≡ place + p
    later_is =
        let q = program.listing.qubits in
        let before = before_of is_step_maker items here in
        omega (
          arith,
          h.inside.place_is,
          h.inside_later.place_is,
          same_number,
          ap (λ is. length (steps_of q is)) h.back.before_later,
          ap (λ steps. length steps) (made_of-append q (new_steps q) at_start before turn),
          length-append (steps_of q before) (made_of q (new_steps q) b_here turn),
          step_number q b_here b turn turn_fits,
        )

    period_is : later - place ≡ p
    period_is = omega (arith, later_is)

    -- the place is within the instructions of the turns and the one behind them
    within : place ≤ start + length (made_of program.listing.qubits (new_steps program.listing.qubits) b (copies count turn ++ next ∷ []))
    unfolding made_of
    within =
        let q = program.listing.qubits in
        let c_b = state_after q b (copies count turn) in
        let i = h.inside.instruction in
        let few = (ends q c_b i h.inside.stands.steps.fits).few s.at h.inside.k h.inside.stands.place in
        omega (
          arith,
          place_is,
          few,
          ap (λ j. length (new_steps q c_b j)) same_now,
          ap (λ steps. length steps) (made_of-append q (new_steps q) b (copies count turn) (next ∷ [])),
          length-append (made_of q (new_steps q) b (copies count turn)) (made_of q (new_steps q) c_b (next ∷ [])),
          ap (λ steps. length steps) (append-nil (new_steps q c_b next)),
          copies_number q count b b turn turn_fits,
        )

    -- ---- counts

    record Counted : Type 0 where
      pub records : c.records ≡ b.records + count * (d.records - c.records) + h.inside.k * one_if (makes_records h.inside.instruction.operation)
      pub more_records : d.records - c.records ≡ (state_after program.listing.qubits b turn).records - b.records
      pub faults : c.faults ≡ b.faults + count * (d.faults - c.faults) + h.inside.k * one_if (makes_faults h.inside.instruction.operation s.flips)
      pub more_faults : d.faults - c.faults ≡ (state_after program.listing.qubits b turn).faults - b.faults

    counts : Counted
    counts =
        let q = program.listing.qubits in
        let g = copies_grow q count b b turn turn_fits in
        let one = grow q b b_here turn turn_fits in
        let rises = state_records q b turn in
        let fault_rises = state_faults q b turn in
        let weigh : Instruction → ℕ → ℕ = λ i k. k * one_if (makes_records i.operation) in
        let weigh_faults : Instruction → ℕ → ℕ = λ i k. k * one_if (makes_faults i.operation (has_argument i)) in
        let same = ap₂ weigh same_later same_number in
        let same_faults = ap₂ weigh_faults same_later same_number in
        let flips = ap (λ f. h.inside.k * one_if (makes_faults h.inside.instruction.operation f)) h.inside.stands.steps.flips in
        let flips_later = ap (λ f. h.inside_later.k * one_if (makes_faults h.inside_later.instruction.operation f)) h.inside_later.stands.steps.flips in
        let records = ap (λ (x : Before). x.records) here_is in
        let records_far = ap (λ (x : Before). x.records) far_is in
        let faults = ap (λ (x : Before). x.faults) here_is in
        let faults_far = ap (λ (x : Before). x.faults) far_is in
        let more : (d.records - c.records) + b.records ≡ (state_after q b turn).records =
        omega (arith, h.inside.stands.counts.records, h.inside_later.stands.counts.records, same, one.records, records_far, rises) in
        let more_faults : (d.faults - c.faults) + b.faults ≡ (state_after q b turn).faults =
        omega (arith, h.inside.stands.counts.faults, h.inside_later.stands.counts.faults, same_faults, flips, flips_later, one.faults, faults_far, fault_rises) in
        record {
          records =
              omega (
                arith,
                h.inside.stands.counts.records,
                records,
                g.records,
                ap (λ m. count * m) more,
                mul-add count (d.records - c.records) b.records,
              );
          more_records = omega (arith, more);
          faults =
              omega (
                arith,
                h.inside.stands.counts.faults,
                faults,
                g.faults,
                ap (λ m. count * m) more_faults,
                mul-add count (d.faults - c.faults) b.faults,
              );
          more_faults = omega (arith, more_faults);
        }

    -- ---- what repeats

    abbrev from : ℕ
    from = place - count * (later - place)

    from_is : from ≡ start + h.inside.k
    from_is = omega (arith, place_is, ap (λ m. count * m) period_is)

    again_by : (r f m : ℕ) → m ≡ p → r ≡ (state_after program.listing.qubits b turn).records - b.records → f ≡ (state_after program.listing.qubits b turn).faults - b.faults → Repeat program.listing.steps from place m r f × RepeatFaults program.listing from place r f
    again_by r f m period_e records_e faults_e =
        let low : start ≤ from = omega (arith, from_is) in
        let steps = repeats program.listing makers front turn count next h.back.rest h.back.rest_later turns from place low within in
        let faults = faults_repeat program.listing makers front turn count next h.back.rest h.back.rest_later turns from place low within in (
          subst (λ x. Repeat program.listing.steps from place x r f) (sym period_e)
              (subst (λ x. Repeat program.listing.steps from place p x f) (sym records_e)
              (subst (λ x. Repeat program.listing.steps from place p ((state_after program.listing.qubits b turn).records - b.records) x) (sym faults_e) steps)),
          subst (λ x. RepeatFaults program.listing from place x f) (sym records_e)
              (subst (λ x. RepeatFaults program.listing from place ((state_after program.listing.qubits b turn).records - b.records) x) (sym faults_e) faults),
        )

    records_e : records_before program.listing.steps later - records_before program.listing.steps place ≡ (state_after program.listing.qubits b turn).records - b.records
    records_e = sym (ap₂ ◌-◌ h.counted_later.records h.counted.records) ∙ counts.more_records

    faults_e : faults_before program.listing.steps later - faults_before program.listing.steps place ≡ (state_after program.listing.qubits b turn).faults - b.faults
    faults_e = sym (ap₂ ◌-◌ h.counted_later.faults h.counted.faults) ∙ counts.more_faults

    again : Again program from place later
    again =
        let both = again_by _ _ (later - place) period_is records_e faults_e in
        record { repeat = both.0; alike = both.1 }

    -- ---- the counts there

    record Grown (now then count_there : ℕ) : Type 0 where
      pub grows : GrowsBy now then count
      pub back : count_back now then count ≡ count_there

    far_place : place + (later - place) ≡ later
    far_place = omega (arith, later_is)

    enough : place ≡ from + count * (later - place)
    enough = omega (arith, place_is, ap (λ m. count * m) period_is)

    grown : (f : ℕ → ℕ) (now then : ℕ) → now ≡ f place → then ≡ f later → GrowsBy (f place) (f (place + (later - place))) count → count_back (f place) (f (place + (later - place))) count ≡ f from → Grown now then (f from)
    grown f now then now_is then_is grows back =
        let far_is : f (place + (later - place)) ≡ then = ap f far_place ∙ sym then_is in
        record {
          grows = subst (λ x. GrowsBy x then count) (sym now_is) (subst (λ x. GrowsBy (f place) x count) far_is grows);
          back = ap₂ (λ x y. count_back x y count) now_is (sym far_is) ∙ back;
        }

    pub turns_back : TurnsBack
    turns_back =
        let steps = program.listing.steps in
        let r = again.repeat in
        let gr = goes_back_by steps (λ k. length (records_made (take k steps))) _ (counts_records steps) _ _ (later - place) place r.within count from enough r.each in
        let gc = goes_back_by steps (λ k. collapse_count (take k steps)) _ (counts_collapses steps) _ _ (later - place) place r.within count from enough r.each in
        let gf = goes_back_by steps (λ k. length (faults_named (take k steps))) _ (counts_faults steps) _ _ (later - place) place r.within count from enough r.each in
        let records = grown (λ k. length (records_made (take k steps))) c.records d.records h.counted.records h.counted_later.records gr.grows gr.back in
        let collapses = grown (λ k. collapse_count (take k steps)) c.collapses d.collapses h.counted.collapses h.counted_later.collapses gc.grows gc.back in
        let faults = grown (λ k. length (faults_named (take k steps))) c.faults d.faults h.counted.faults h.counted_later.faults gf.grows gf.back in
        let i = h.inside.instruction in
        let left : left_of is_step_maker items new ≡ i ∷ h.back.rest_new = h.back.left_new ∙ ap (λ (j : Instruction). j ∷ h.back.rest_new) (sym same_now) in
        record {
          enough = omega (arith, enough);
          few = omega (arith, r.within);
          grow = record { records = records.grows; collapses = collapses.grows; faults = faults.grows };
          inside = record {
            instruction = i;
            rest = h.back.rest_new;
            k = h.inside.k;
            left = left;
            faced = subst (Faces is_step_maker items) (sym h.back.index) h.inside.faced;
            stands = record {
              steps = h.inside.stands.steps;
              place = h.inside.stands.place;
              counts = record {
                records = omega (arith, counts.records);
                faults = omega (arith, counts.faults);
              };
              near = (sound_next program text new i h.back.rest_new h.held h.stands_new left).near;
            };
            marked = h.inside.marked;
            place_is = from_is;
          };
          counted = record { records = records.back; collapses = collapses.back; faults = faults.back };
          again = again;
        }

-- ---- courses

-- a course with another cursor, other counts and another number of steps
abbrev pub turned : {A : Type 0} → Course A → Cursor → Counts → ℕ → Course A
turned c cursor counts steps = record c { cursor = cursor; counts = counts; steps = steps }

module _ {A : Type 0} (program : KeptProgram) (old later : Course A) (h : IsCourse program old) (j : IsCourse program later) where
  pub items_alike : later.text.items.now.items ≡ old.text.items.now.items
  items_alike = same_items program old.text later.text h.held j.held

  pub stands_alike : StandsIn is_step_maker old.text.items.now.items later.cursor
  stands_alike = subst (λ is. StandsIn is_step_maker is later.cursor) items_alike j.stands

  module _ (inside : old.inside ≡ true) (inside_later : later.inside ≡ true) (at : later.here.at ≡ old.here.at) (cursor : Cursor) (count : ℕ) (stands : StandsIn is_step_maker old.text.items.now.items cursor) (back : GoesBackBy is_step_maker old.text.items.now.items old.cursor later.cursor cursor count) where
    pub back_over : TurnsBack program old.text old.cursor later.cursor cursor old.here later.here old.counts later.counts old.steps later.steps count
    back_over =
        turns_back program old.text old.cursor later.cursor cursor old.here later.here old.counts later.counts old.steps later.steps count
        (record {
          held = h.held;
          stands = h.stands;
          stands_later = stands_alike;
          stands_new = stands;
          inside = h.inside inside;
          inside_later = subst (λ is. IsInside program.listing.qubits program.chances is later.cursor later.here later.counts later.steps) items_alike (j.inside inside_later);
          at_is = at;
          counted = h.counted;
          counted_later = j.counted;
          back = back;
        })

    pub goes_back : (counts : Counts) (steps : ℕ) → counts ≡ counts_back old.counts later.counts count → steps ≡ old.steps - count * (later.steps - old.steps) → IsCourse program (turned old cursor counts steps)
    goes_back counts steps counts_e steps_e =
        let over = back_over in
        let exact : IsCourse program (turned old cursor (counts_back old.counts later.counts count) (old.steps - count * (later.steps - old.steps))) =
        record {
          held = h.held;
          stands = stands;
          inside = λ e. over.inside;
          between = λ e. absurd (both (sym inside ∙ e));
          counted = over.counted;
        } in
        subst (λ (x : Counts). IsCourse program (turned old cursor x steps)) (sym counts_e)
        (subst (λ x. IsCourse program (turned old cursor (counts_back old.counts later.counts count) x)) (sym steps_e) exact)
      where
        both : true ≡ false → ⊥
        both e = cc
