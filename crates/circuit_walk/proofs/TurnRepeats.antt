-- Where the instructions of a turn are reached so many times one after another, the steps of each turn but the last are those
-- of the next, moved on, and so are the faults.
use Rattle.std.proofs.Common.{◌≡◌, ℕ, zero, suc, ◌+◌, ◌-◌, ◌<◌, ◌≤◌, false, List, [], ◌∷◌, ◌++◌, length, length-append, map, Some, option_map, get_or, sym, ap, subst, ◌∙◌, append_assoc, arith}
use Rattle.std.specs.Prelude.{All, slice_get}
use Rattle.std.specs.List.{flat_map, range_with_len}
use Rattle.std.proofs.lemmas.List.{length-map}
use Rattle.std.proofs.lemmas.List.Elements.{All-same, All-weaker}
use Rattle.std.proofs.lemmas.Option.{slice_get-get_or}
use Rattle.step_model.specs.Listing.{Listing, ListedFault, fault_at, no_effect}
use Rattle.step_model.specs.WellFormed.{step_faults}
use Rattle.stim_lexer.specs.Reached.{copies}
use Rattle.stim_parser.specs.Verdicts.{Instruction}
use Rattle.circuit_walk.specs.Before.{Before}
use Rattle.circuit_walk.specs.Meaning.{at_start, made_of, new_faults, new_steps}
use Rattle.circuit_walk.specs.Refusals.{reaches_far}
use Rattle.circuit_walk.specs.Turns.{Repeat, RepeatFaults, moved_fault, moved_step}
use Rattle.circuit_walk.specs.private.Walks.{state_after, steps_of}
use Rattle.circuit_walk.proofs.CourseLemmas.{AllOf}
use Rattle.circuit_walk.proofs.MadeNumbers.{faults_numbered}
use Rattle.circuit_walk.proofs.MeaningLemmas.{made_of-append}
use Rattle.circuit_walk.proofs.MovedInstructions.{IsLater, faults_moved, steps_moved}
use Rattle.circuit_walk.proofs.MovedLists.{AreNear, all_moved, copies_turn, fit_behind, fit_first, near_behind, near_first}
use Rattle.circuit_walk.proofs.StartLemmas.{state_faults, state_records}
use Rattle.circuit_walk.proofs.TwiceInLists.{all_in_range, all_of_one, get_within, twice}

at_of_get : {X : Type 0} (xs : List X) (k : ℕ) (x d : X) → slice_get xs k ≡ Some x → get_or xs k d ≡ x
at_of_get [] k x d h = cc
at_of_get (y ∷ ys) zero x d h = cc
at_of_get (y ∷ ys) (suc k) x d h = at_of_get ys k x d h

module _ (program : Listing) (makers front turn : List Instruction) (count : ℕ) (next : Instruction) (rest rest_later : List Instruction) where
  -- the instructions are reached after those in front, and the next one stands behind so many turns, and behind one more
  pub record AreTurns : Type 0 where
    pub steps_are : program.steps ≡ steps_of program.qubits makers
    pub faults_are : program.faults ≡ made_of program.qubits (new_faults program.qubits) at_start makers
    pub fit : AllOf makers
    pub near : AreNear program.qubits at_start makers
    pub now : makers ≡ front ++ (copies count turn ++ next ∷ rest)
    pub later : makers ≡ front ++ ((copies count turn ++ turn) ++ next ∷ rest_later)

  -- what came before the first turn, and before the second
  abbrev pub first_before : Before
  first_before = state_after program.qubits at_start front

  abbrev pub second_before : Before
  second_before = state_after program.qubits first_before turn

  -- the turns and the instruction behind them
  abbrev pub part : List Instruction
  part = copies count turn ++ next ∷ []

  abbrev pub records_by : ℕ
  records_by = second_before.records - first_before.records

  abbrev pub faults_by : ℕ
  faults_by = second_before.faults - first_before.faults

  -- the steps of a turn, and those before the first
  abbrev pub period : ℕ
  period = length (made_of program.qubits (new_steps program.qubits) first_before turn)

  abbrev pub base : ℕ
  base = length (steps_of program.qubits front)

  abbrev pub reach : ℕ
  reach = length (made_of program.qubits (new_steps program.qubits) first_before part)

  is_later : IsLater records_by faults_by first_before second_before
  is_later =
      record {
        records_are = omega (arith, state_records program.qubits first_before turn);
        faults_are = omega (arith, state_faults program.qubits first_before turn);
      }

  module _ (t : AreTurns) where
    once : makers ≡ front ++ (part ++ rest)
    once = t.now ∙ ap (λ (is : List Instruction). front ++ is) (sym (append_assoc (copies count turn) (next ∷ []) rest))

    again : makers ≡ front ++ (turn ++ (part ++ rest_later))
    again =
        t.later
        ∙ ap (λ (is : List Instruction). front ++ (is ++ next ∷ rest_later)) (copies_turn count turn)
        ∙ ap (λ (is : List Instruction). front ++ is) (append_assoc turn (copies count turn) (next ∷ rest_later))
        ∙ ap (λ (is : List Instruction). front ++ (turn ++ is)) (sym (append_assoc (copies count turn) (next ∷ []) rest_later))

    part_fits : AllOf part
    part_fits = fit_first part rest (fit_behind front (part ++ rest) (subst AllOf once t.fit))

    part_near : AreNear program.qubits first_before part
    part_near =
        near_first program.qubits first_before part rest
        (near_behind program.qubits at_start front (part ++ rest) (subst (AreNear program.qubits at_start) once t.near))

    module _ {X : Type 0} (make : Before → Instruction → List X) (change : X → X) (each : (b c : Before) (i : Instruction) → IsLater records_by faults_by b c → reaches_far b.records i.targets ≡ false → make c i ≡ map change (make b i)) where
      made_once : made_of program.qubits make at_start makers ≡ made_of program.qubits make at_start front ++ (made_of program.qubits make first_before part ++ made_of program.qubits make (state_after program.qubits first_before part) rest)
      made_once =
          ap (made_of program.qubits make at_start) once
          ∙ made_of-append program.qubits make at_start front (part ++ rest)
          ∙ ap (λ (xs : List X). made_of program.qubits make at_start front ++ xs) (made_of-append program.qubits make first_before part rest)

      made_again : made_of program.qubits make at_start makers ≡ made_of program.qubits make at_start front ++ (made_of program.qubits make first_before turn ++ (map change (made_of program.qubits make first_before part) ++ made_of program.qubits make (state_after program.qubits second_before part) rest_later))
      made_again =
          ap (made_of program.qubits make at_start) again
          ∙ made_of-append program.qubits make at_start front (turn ++ (part ++ rest_later))
          ∙ ap (λ (xs : List X). made_of program.qubits make at_start front ++ xs)
          (made_of-append program.qubits make first_before turn (part ++ rest_later)
          ∙ ap (λ (xs : List X). made_of program.qubits make first_before turn ++ xs)
          (made_of-append program.qubits make second_before part rest_later
          ∙ ap (λ (xs : List X). xs ++ made_of program.qubits make (state_after program.qubits second_before part) rest_later)
          (all_moved program.qubits records_by faults_by make change each first_before second_before part is_later part_fits part_near)))

      comes_again : (k : ℕ) → k < length (made_of program.qubits make first_before part) → slice_get (made_of program.qubits make at_start makers) (length (made_of program.qubits make at_start front) + k + length (made_of program.qubits make first_before turn)) ≡ option_map change (slice_get (made_of program.qubits make at_start makers) (length (made_of program.qubits make at_start front) + k))
      comes_again k lt =
          twice change (made_of program.qubits make at_start makers) (made_of program.qubits make at_start front) (made_of program.qubits make first_before part)
          (made_of program.qubits make (state_after program.qubits first_before part) rest) (made_of program.qubits make first_before turn)
          (made_of program.qubits make (state_after program.qubits second_before part) rest_later) made_once made_again
          (length-map (made_of program.qubits make first_before part) change) k lt

    -- ---- steps

    pub steps_again : (k : ℕ) → k < reach → slice_get program.steps (base + k + period) ≡ option_map (moved_step records_by faults_by) (slice_get program.steps (base + k))
    steps_again k lt =
        ap (λ steps. slice_get steps (base + k + period)) t.steps_are
        ∙ comes_again (new_steps program.qubits) (moved_step records_by faults_by) (λ b c i. steps_moved records_by faults_by program.qubits b c i) k lt
        ∙ ap (λ steps. option_map (moved_step records_by faults_by) (slice_get steps (base + k))) (sym t.steps_are)

    pub room : base + reach + period ≤ length program.steps
    room =
        let make = new_steps program.qubits in
        let change = moved_step records_by faults_by in
        let whole = made_again make change (λ b c i. steps_moved records_by faults_by program.qubits b c i) in
        let behind = made_of program.qubits make (state_after program.qubits second_before part) rest_later in
        let mine = made_of program.qubits make first_before part in
        let first = made_of program.qubits make first_before turn in
        omega (
          arith,
          ap (λ steps. length steps) t.steps_are,
          ap (λ steps. length steps) whole,
          length-append (steps_of program.qubits front) (first ++ (map change mine ++ behind)),
          length-append first (map change mine ++ behind),
          length-append (map change mine) behind,
          length-map mine change,
        )

    pub repeats : (from to : ℕ) → base ≤ from → to ≤ base + reach → Repeat program.steps from to period records_by faults_by
    repeats from to low high =
        record {
          within = omega (arith, room, high);
          each = λ k above below.
              let here : base + (k - base) ≡ k = omega (arith, low, above) in
              let far : base + (k - base) + period ≡ k + period = omega (arith, low, above) in
              sym (ap (slice_get program.steps) far)
              ∙ steps_again (k - base) (omega (arith, low, above, below, high))
              ∙ ap (λ j. option_map (moved_step records_by faults_by) (slice_get program.steps j)) here;
        }

    -- ---- faults

    fault_moved : (f : ℕ) → first_before.faults ≤ f → f < first_before.faults + length (made_of program.qubits (new_faults program.qubits) first_before part) → fault_at program (f + faults_by) ≡ moved_fault records_by (fault_at program f)
    fault_moved f low high =
        let make = new_faults program.qubits in
        let change = moved_fault records_by in
        let each : (b c : Before) (i : Instruction) → IsLater records_by faults_by b c → reaches_far b.records i.targets ≡ false → make c i ≡ map change (make b i) = λ b c i. faults_moved records_by faults_by program.qubits b c i in
        let mine = made_of program.qubits make first_before part in
        let all = made_of program.qubits make at_start makers in
        let front_faults = made_of program.qubits make at_start front in
        let k = f - first_before.faults in
        let lt : k < length mine = omega (arith, low, high) in
        let x = get_or mine k no_effect in
        let front_number : length front_faults ≡ first_before.faults = omega (arith, state_faults program.qubits at_start front) in
        let by : length (made_of program.qubits make first_before turn) ≡ faults_by = omega (arith, state_faults program.qubits first_before turn) in
        let here : length front_faults + k ≡ f = omega (arith, front_number, low) in
        let far : length front_faults + k + length (made_of program.qubits make first_before turn) ≡ f + faults_by = omega (arith, here, by) in
        let got : slice_get all (length front_faults + k) ≡ Some x =
        get_within all front_faults mine (made_of program.qubits make (state_after program.qubits first_before part) rest) k (made_once make change each) lt ∙ slice_get-get_or mine k no_effect lt in
        let now : slice_get program.faults f ≡ Some x = ap (λ (fs : List ListedFault). slice_get fs f) t.faults_are ∙ (ap (slice_get all) (sym here) ∙ got) in
        let then : slice_get program.faults (f + faults_by) ≡ Some (change x) =
        ap (λ (fs : List ListedFault). slice_get fs (f + faults_by)) t.faults_are
        ∙ (ap (slice_get all) (sym far) ∙ (comes_again make change each k lt ∙ ap (option_map change) got)) in
        at_of_get program.faults (f + faults_by) (change x) no_effect then
        ∙ ap change (sym (at_of_get program.faults f x no_effect now))

    abbrev Moves : ℕ → Type 0
    Moves f = fault_at program (f + faults_by) ≡ moved_fault records_by (fault_at program f)

    pub faults_repeat : (from to : ℕ) → base ≤ from → to ≤ base + reach → RepeatFaults program from to records_by faults_by
    faults_repeat from to low high =
        record {
          each = λ k step above below got.
              let n = program.qubits in
              let mine = made_of n (new_steps n) first_before part in
              let here : base + (k - base) ≡ k = omega (arith, low, above) in
              let lt : k - base < length mine = omega (arith, low, above, below, high) in
              let same =
              get_within (steps_of n makers) (steps_of n front) mine (made_of n (new_steps n) (state_after n first_before part) rest) (k - base)
              (made_once (new_steps n) (moved_step records_by faults_by) (λ b c i. steps_moved records_by faults_by n b c i)) lt in
              let mine_got : slice_get mine (k - base) ≡ Some step =
              sym same ∙ (ap (slice_get (steps_of n makers)) here ∙ (ap (λ steps. slice_get steps k) (sym t.steps_are) ∙ got)) in
              let count = length (made_of n (new_faults n) first_before part) in
              let all : All Moves (flat_map step_faults mine) =
              All-same Moves (flat_map step_faults mine) (range_with_len first_before.faults count) (faults_numbered n first_before part)
              (All-weaker (λ f. (first_before.faults ≤ f) × (f < first_before.faults + count)) Moves (λ f h. fault_moved f h.0 h.1) (range_with_len first_before.faults count) (all_in_range first_before.faults count)) in
              all_of_one Moves step_faults mine (k - base) step all mine_got;
        }
