-- Words of a run's state as frames: by such a word the state differs from itself, so it may be begun anywhere as a frame,
-- and any frame may be multiplied by it.
use Rattle.std.proofs.Common.{◌≡◌, ℕ, zero, suc, ◌+◌, ◌<◌, ◌≤◌, ◌-◌, ◌==◌, inl, inr, not, if◌then◌else◌, Bool, true, false, List, [], ◌∷◌, ◌++◌, length, length-append, replicate, refl, ap, ap₂, sym, ◌∙◌, arith, subst}
use Rattle.std.proofs.lemmas.Bool.{cases_Bool}
use Rattle.std.proofs.lemmas.List.{length-replicate}
use Rattle.std.proofs.lemmas.List.Elements.{All-head, All-tail}
use Rattle.std.specs.List.{AllPass}
use Rattle.pauli_word.specs.declared.letter.Letter.{Letter}
use Rattle.pauli_word.specs.States.{State, outcome}
use Rattle.pauli_word.specs.Groups.{IsGroup}
use Rattle.pauli_word.specs.Words.{Signed, anticommute, signed, with_sign_changed}
use Rattle.pauli_word.proofs.Groups.{IsGroup-start}
use Rattle.pauli_word.proofs.WordLaws.{length-letters_product}
use Rattle.step_model.specs.declared.step.Place.{Place}
use Rattle.step_model.specs.declared.step.Place.TheVariants.{Start, After}
use Rattle.step_model.specs.Frames.{Frame, begun, flips_from, flips_after, flips_of}
use Rattle.step_model.specs.Listing.{Listing, ListedStep, One, Two, Collapse, Fault, Feedback, measured_word, step_records, is_collapse}
use Rattle.step_model.specs.Runs.{RunState, next, next_coin, run_from, start}
use Rattle.step_model.specs.WellFormed.{step_fits, records_made, collapse_count}
use Rattle.step_model.proofs.StateIsGroup.{IsGroup-next}
use Rattle.run_laws.specs.ShiftedWords.{FlipsOutcomes, flips_between, steps_past, steps_after, IsThere, WordShift, PlaceShift, ProductLaw}
use Rattle.run_laws.specs.Shifts.{flipped_by, outcomes_from, flips_with, IsShifted, DifferByFrame, IsShift}
use Rattle.run_laws.proofs.PairPlaces.{after_first}
use Rattle.run_laws.proofs.PairRuns.{with_coins, same-collapse, made-next}
use Rattle.run_laws.proofs.PairStates.{shifted-times}
use Rattle.run_laws.proofs.ShiftLists.{joined-no_flips}
use Rattle.run_laws.proofs.ShiftRuns.{frames_shift_runs, same-flips}

-- what anticommutes with a word of a state isn't in the state
absent : (n : ℕ) (v : List Letter) (b : Bool) (s : State) (p : Signed) → IsGroup n s → length v ≡ n → s (signed v b) ≡ true → length p.letters ≡ n → anticommute p.letters v ≡ true → s p ≡ false
absent n v b s p group size member size' clash =
    elim (cases_Bool (s p)) [
      | inl h ↦ (let e : anticommute p.letters v ≡ false = group.commuting p (signed v b) (record { size = size'; member = h }) (record { size = size; member = member }) in cc)
      | inr h ↦ h
    ]

-- so by that word the state differs from itself
pub member-shifted : (n : ℕ) (v : List Letter) (b : Bool) (s : State) → IsGroup n s → length v ≡ n → s (signed v b) ≡ true → IsShifted n v s s
member-shifted n v b s group size member p size' =
    elim (cases_Bool (anticommute p.letters v)) [
      | inl h ↦
          absent n v b s p group size member size' h
          ∙ sym (absent n v b s (with_sign_changed (anticommute p.letters v) p) group size member size' h)
      | inr h ↦ ap (λ b. s (with_sign_changed b p)) (sym h)
    ]

pub frame_product : ProductLaw
frame_product n v flips m m' w negative differ size member = record {
  size = length-letters_product w v.word (size ∙ sym differ.size) ∙ size;
  group = differ.group;
  states =
      shifted-times n v.word w m.state m'.state (size ∙ sym differ.size) differ.states
      (member-shifted n w negative m.state differ.group size member);
  coins = differ.coins;
  records_size = differ.records_size;
  records = differ.records;
}

-- a frame begun before these steps
shift_here : (program : Listing) (faults : List Bool) (v : List Letter) (negative : Bool) (later : List ListedStep) (m : RunState) (made : ℕ)
    → AllPass (step_fits program) later → IsGroup program.qubits m.state → length v ≡ program.qubits → made ≡ length m.records
    → m.state (signed v negative) ≡ true
    → outcomes_from program faults later (with_coins m (flipped_by (flips_from program.qubits (begun v made) later) m.coins))
    ≡ flipped_by (flips_from program.qubits (begun v made) later) (outcomes_from program faults later m)
shift_here program faults v negative later m made fit group size made_is member =
    let frame : Frame = begun v made in
    let flips = flips_from program.qubits frame later in
    let differ : DifferByFrame program.qubits frame (flips_with program faults faults frame later) m (with_coins m (flipped_by flips m.coins)) = record {
      size = size;
      group = group;
      states = member-shifted program.qubits v negative m.state group size member;
      coins = ap (λ f. flipped_by f m.coins) (sym (same-flips program faults frame later));
      records_size = length-replicate made false ∙ made_is;
      records = sym (joined-no_flips made m.records made_is);
    } in
    let shift : IsShift program faults faults later frame m (with_coins m (flipped_by flips m.coins)) = frames_shift_runs program faults faults later frame m (with_coins m (flipped_by flips m.coins)) fit differ in
    shift.outcomes ∙ ap (λ f. flipped_by f (outcomes_from program faults later m)) (same-flips program faults frame later)

-- and one begun after the earlier of two parts of the steps, with so many collapses in it and so many records by then
shift_from : (program : Listing) (faults : List Bool) (v : List Letter) (negative : Bool) (earlier later : List ListedStep) (m : RunState) (collapses made : ℕ)
    → AllPass (step_fits program) (earlier ++ later) → IsGroup program.qubits m.state → length v ≡ program.qubits
    → collapses ≡ collapse_count earlier → made ≡ length m.records + length (records_made earlier)
    → (run_from program faults earlier m).state (signed v negative) ≡ true
    → outcomes_from program faults (earlier ++ later) (with_coins m (flipped_by (replicate collapses false ++ flips_from program.qubits (begun v made) later) m.coins))
    ≡ flipped_by (replicate collapses false ++ flips_from program.qubits (begun v made) later) (outcomes_from program faults (earlier ++ later) m)
shift_from program faults v negative [] later m zero made fit group size count made_is member =
    shift_here program faults v negative later m made fit group size (omega arith) member
shift_from program faults v negative [] later m (suc c) made fit group size count made_is member = absurd (omega arith)
shift_from program faults v negative (One gate q ∷ earlier) later m c made fit group size count made_is member =
    shift_from program faults v negative earlier later (next program faults (One gate q) m) c made (All-tail (λ x. step_fits program x ≡ true) (One gate q) (earlier ++ later) fit)
    (IsGroup-next program faults (One gate q) m (All-head (λ x. step_fits program x ≡ true) (One gate q) (earlier ++ later) fit) group) size (omega arith) made_is member
shift_from program faults v negative (Two gate a b ∷ earlier) later m c made fit group size count made_is member =
    shift_from program faults v negative earlier later (next program faults (Two gate a b) m) c made (All-tail (λ x. step_fits program x ≡ true) (Two gate a b) (earlier ++ later) fit)
    (IsGroup-next program faults (Two gate a b) m (All-head (λ x. step_fits program x ≡ true) (Two gate a b) (earlier ++ later) fit) group) size (omega arith) made_is member
shift_from program faults v negative (Fault f ∷ earlier) later m c made fit group size count made_is member =
    shift_from program faults v negative earlier later (next program faults (Fault f) m) c made (All-tail (λ x. step_fits program x ≡ true) (Fault f) (earlier ++ later) fit)
    (IsGroup-next program faults (Fault f) m (All-head (λ x. step_fits program x ≡ true) (Fault f) (earlier ++ later) fit) group) size (omega arith) made_is member
shift_from program faults v negative (Feedback w r ∷ earlier) later m c made fit group size count made_is member =
    shift_from program faults v negative earlier later (next program faults (Feedback w r) m) c made (All-tail (λ x. step_fits program x ≡ true) (Feedback w r) (earlier ++ later) fit)
    (IsGroup-next program faults (Feedback w r) m (All-head (λ x. step_fits program x ≡ true) (Feedback w r) (earlier ++ later) fit) group) size (omega arith) made_is member
shift_from program faults v negative (Collapse w r ∷ earlier) later m zero made fit group size count made_is member = absurd (omega arith)
shift_from program faults v negative (Collapse w r ∷ earlier) later m (suc c) made fit group size count made_is member =
    let step = Collapse w r in
    let flips = replicate c false ++ flips_from program.qubits (begun v made) later in
    let more : length m.records + length (step_records step) ≡ length (next program faults step m).records = made-next program faults w r m (length m.records) refl in
    let count_is : length (records_made (step ∷ earlier)) ≡ length (step_records step) + length (records_made earlier) = length-append (step_records step) (records_made earlier) in
    ap (λ xs. outcome m.state (measured_word program.qubits w) (next_coin m.coins) ∷ xs)
    (ap (outcomes_from program faults (earlier ++ later)) (same-collapse program faults w r m (flipped_by (false ∷ flips) m.coins) refl)
    ∙ shift_from program faults v negative earlier later (next program faults step m) c made (All-tail (λ x. step_fits program x ≡ true) step (earlier ++ later) fit)
    (IsGroup-next program faults step m (All-head (λ x. step_fits program x ≡ true) step (earlier ++ later) fit) group) size (omega arith) (omega arith) member)

pub word_shift : WordShift
word_shift program faults coins v negative earlier later fit split size member =
    let flips = flips_between program.qubits v earlier later in
    subst
    (λ steps. outcomes_from program faults steps (start (flipped_by flips coins)) ≡ flipped_by flips (outcomes_from program faults steps (start coins)))
    (sym split)
    (shift_from program faults v negative earlier later (start coins) (collapse_count earlier) (length (records_made earlier))
    (subst (λ steps. AllPass (step_fits program) steps) split fit.steps_fit)
    (IsGroup-start program.qubits) size refl (omega arith) member)

-- places among the steps

no_front : (earlier steps : List ListedStep) → steps ≡ earlier ++ steps → earlier ≡ []
no_front [] steps e = refl
no_front (step ∷ earlier) steps e = absurd (omega (arith, ap length e, length-append (step ∷ earlier) steps))

within_step : (b : Bool) (steps : List ListedStep) (k : ℕ) → ((j : ℕ) → length (steps_past j steps) ≤ length steps)
    → length (if not b then steps_past k steps else if k == 0 then steps else steps_past (k - 1) steps) ≤ length steps
within_step false steps k rest = rest k
within_step true steps zero rest = omega arith
within_step true steps (suc k) rest = subst (λ later. length later ≤ length steps) (sym (after_first k steps (λ j. steps_past j steps))) (rest k)

-- what comes after a collapse of these steps is no longer than they are
within : (steps : List ListedStep) (k : ℕ) → length (steps_past k steps) ≤ length steps
within [] k = omega arith
within (step ∷ steps) k = omega (arith, within_step (is_collapse step) steps k (within steps))

cons_parts : (x y : ListedStep) (xs ys : List ListedStep) → x ∷ xs ≡ y ∷ ys → (x ≡ y) × (xs ≡ ys)
cons_parts x y xs ys e = (cc, cc)

-- a frame begun as v after the earlier of these steps, which are those up to the collapse k, where so many records were
-- made before them
module _ (n : ℕ) (v : List Letter) where
  abbrev flips_past : ℕ → List ListedStep → List ListedStep → List Bool
  flips_past made earlier later = replicate (collapse_count earlier) false ++ flips_from n (begun v (made + length (records_made earlier))) later

  past_step : (b : Bool) (steps earlier : List ListedStep) (k made : ℕ)
      → steps ≡ earlier ++ (if not b then steps_past k steps else if k == 0 then steps else steps_past (k - 1) steps)
      → k < (if b then 1 else 0) + collapse_count steps
      → ((j : ℕ) → steps ≡ earlier ++ steps_past j steps → j < collapse_count steps → flips_past made earlier (steps_past j steps) ≡ flips_after n v j made steps)
      → (if b then false ∷ [] else []) ++ flips_past made earlier (if not b then steps_past k steps else if k == 0 then steps else steps_past (k - 1) steps)
      ≡ (if not b then flips_after n v k made steps else false ∷ (if k == 0 then flips_from n (begun v made) steps else flips_after n v (k - 1) made steps))
  past_step false steps earlier k made e inside rest = rest k e (omega arith)
  past_step true steps earlier zero made e inside rest =
      subst (λ front. false ∷ flips_past made front steps ≡ false ∷ flips_from n (begun v made) steps) (sym (no_front earlier steps e))
      (ap (λ m. false ∷ flips_from n (begun v m) steps) (omega arith))
  past_step true steps earlier (suc k) made e inside rest =
      let later = after_first k steps (λ j. steps_past j steps) in
      ap (λ flips. false ∷ flips)
      (ap (flips_past made earlier) later
      ∙ (rest k (e ∙ ap (λ behind. earlier ++ behind) later) (omega arith)
      ∙ sym (after_first k (flips_from n (begun v made) steps) (λ j. flips_after n v j made steps))))

  -- with one step more before it
  past_front : (b : Bool) (count made made' : ℕ) (later : List ListedStep) → made ≡ made'
      → replicate ((if b then 1 else 0) + count) false ++ flips_from n (begun v made) later
      ≡ (if b then false ∷ [] else []) ++ (replicate count false ++ flips_from n (begun v made') later)
  past_front false count made made' later e =
      let c : 0 + count ≡ count = omega arith in
      ap₂ (λ c m. replicate c false ++ flips_from n (begun v m) later) c e
  past_front true count made made' later e =
      let c : 1 + count ≡ suc count = omega arith in
      ap₂ (λ c m. replicate c false ++ flips_from n (begun v m) later) c e

  past : (steps earlier : List ListedStep) (k made : ℕ) → steps ≡ earlier ++ steps_past k steps → k < collapse_count steps
      → flips_past made earlier (steps_past k steps) ≡ flips_after n v k made steps
  past [] earlier k made e inside = absurd (omega arith)
  past (step ∷ steps) [] k made e inside =
      absurd (omega (arith, ap length e, within_step (is_collapse step) steps k (within steps)))
  past (step ∷ steps) (x ∷ earlier) k made e inside =
      let parts = cons_parts step x steps _ e in
      let counted : made + length (records_made (step ∷ earlier)) ≡ (made + length (step_records step)) + length (records_made earlier) =
      omega (arith, length-append (step_records step) (records_made earlier)) in
      subst (λ y. flips_past made (y ∷ earlier) (steps_past k (step ∷ steps)) ≡ flips_after n v k made (step ∷ steps)) parts.0
      (past_front (is_collapse step) (collapse_count earlier) _ _ (steps_past k (step ∷ steps)) counted
      ∙ past_step (is_collapse step) steps earlier k (made + length (step_records step)) parts.1 inside
      (λ j e' h. past steps earlier j (made + length (step_records step)) e' h))

flips_at_place : (program : Listing) (place : Place) (v : List Letter) (earlier : List ListedStep)
    → collapse_count program.steps ≡ program.collapses → IsThere program place → program.steps ≡ earlier ++ steps_after program place
    → flips_between program.qubits v earlier (steps_after program place) ≡ flips_of program place v
flips_at_place program (Start q) v earlier count there split =
    ap (λ front. flips_between program.qubits v front program.steps) (no_front earlier program.steps split)
flips_at_place program (After k) v earlier count there split =
    ap (λ made. replicate (collapse_count earlier) false ++ flips_from program.qubits (begun v made) (steps_past k program.steps)) (omega arith)
    ∙ past program.qubits v program.steps earlier k 0 split (omega arith)

pub place_shift : PlaceShift
place_shift program faults coins place v negative earlier fit there split size member =
    subst (FlipsOutcomes program faults coins) (flips_at_place program place v earlier fit.collapses_counted there split)
    (word_shift program faults coins v negative earlier (steps_after program place) fit split size member)
