-- The error lines of turns that repeat: those of a turn, moved to earlier detectors.
use Rattle.std.proofs.Common.{◌≡◌, ℕ, zero, suc, ◌+◌, ◌-◌, ◌*◌, ◌<◌, ◌≤◌, ◌==◌, ◌&&◌, Bool, true, false, List, [], ◌∷◌, ◌++◌, map, length, drop, Option, None, Some, refl, ap, ap₂, sym, ◌∙◌, append-nil, subst, arith}
use Rattle.std.specs.Prelude.{All, filter, option_map}
use Rattle.std.specs.List.{flat_map, range_with_len}
use Rattle.std.specs.Option.{option_to_list}
use Rattle.std.proofs.lemmas.Bool.Decides.{nat_tests}
use Rattle.pauli_word.specs.Words.{anticommute, no_letters}
use Rattle.pauli_word.proofs.WordLaws.{anticommute_of_none}
use Rattle.step_model.specs.ErrorModels.{ErrorLine}
use Rattle.step_model.specs.Hits.{hits_at, is_flip_of, is_recorded_flip}
use Rattle.step_model.specs.Listing.{Listing, ListedStep, One, Two, Collapse, Fault, Feedback, Recorded, fault_at, fault_word}
use Rattle.step_model.specs.Sensitivities.{Sensitivity, record_counts}
use Rattle.step_model.specs.Targets.{targets_of}
use Rattle.step_model.specs.WellFormed.{step_faults}
use Rattle.circuit_walk.specs.Turns.{moved_recorded, moved_step}
use Rattle.std.proofs.lemmas.List.Elements.{All-cons, All-head, All-nil, All-tail}
use Rattle.backward.specs.declared.moved.Shift.{Shift}
use Rattle.backward.specs.private.MovedTargets.{IsShiftOf, is_within, later_target, moved_list, window_end}
use Rattle.backward.proofs.GrownLists.{in_low, later_stays}
use Rattle.backward.specs.private.Stretches.{first_lines, hit_at, line_at, line_for, lines_at, lines_between}
use Rattle.backward.specs.private.TurnLines.{moved_error_lines, turn_lines}
use Rattle.backward.proofs.PassLines.{lines_between-more, lines_between-none, lines_between-parts}
use Rattle.backward.proofs.MovedFilters.{filter_alike, filter-clear}
use Rattle.backward.proofs.TurnLemmas.{CountsAlike, front, sens, silent_beyond, step_of}
use Rattle.backward.proofs.TurnLineLemmas.{moved_error_lines-append}

-- ---- moved lines
pub moved_line_for : (detectors by : ℕ) (text ts : List ℕ) → moved_error_lines detectors by (line_for text ts) ≡ line_for text (moved_list detectors by ts)
moved_line_for detectors by text [] = refl
moved_line_for detectors by text (t ∷ ts) = append-nil (line_for text (moved_list detectors by (t ∷ ts)))

-- moved twice
moved_twice : (detectors a b : ℕ) (ts : List ℕ) → moved_list detectors a (moved_list detectors b ts) ≡ moved_list detectors (a + b) ts
moved_twice detectors a b [] = refl
moved_twice detectors a b (t ∷ ts) = let rest = moved_twice detectors a b ts in grind (arith, nat_tests, rest)

pub moved_lines_twice : (detectors a b : ℕ) (lines : List ErrorLine) → moved_error_lines detectors a (moved_error_lines detectors b lines) ≡ moved_error_lines detectors (a + b) lines
moved_lines_twice detectors a b [] = refl
moved_lines_twice detectors a b (line ∷ lines) =
    moved_error_lines-append detectors a (line_for line.text (moved_list detectors b line.targets)) (moved_error_lines detectors b lines)
    ∙ ap₂ (λ xs ys. xs ++ ys) (moved_line_for detectors a line.text (moved_list detectors b line.targets) ∙ ap (line_for line.text) (moved_twice detectors a b line.targets)) (moved_lines_twice detectors a b lines)

-- moved by no detector: each line of a program's faults has a target
unmoved : (detectors : ℕ) (ts : List ℕ) → moved_list detectors 0 ts ≡ ts
unmoved detectors [] = refl
unmoved detectors (t ∷ ts) = let rest = unmoved detectors ts in grind (arith, nat_tests, rest)

flat_unmoved : {A : Type 0} (detectors : ℕ) (f : A → List ErrorLine) → ((x : A) → moved_error_lines detectors 0 (f x) ≡ f x) → (xs : List A) → moved_error_lines detectors 0 (flat_map f xs) ≡ flat_map f xs
flat_unmoved detectors f each [] = refl
flat_unmoved detectors f each (x ∷ xs) = moved_error_lines-append detectors 0 (f x) (flat_map f xs) ∙ ap₂ (λ a b. a ++ b) (each x) (flat_unmoved detectors f each xs)

first_unmoved : (program : Listing) (detectors : ℕ) (steps : List ListedStep) → moved_error_lines detectors 0 (first_lines program steps) ≡ first_lines program steps
first_unmoved program detectors [] = refl
first_unmoved program detectors (step ∷ steps) =
    flat_unmoved detectors (line_at program step steps) (λ f. let ts = hit_at program step steps f in let text = (fault_at program f).text in moved_line_for detectors 0 text ts ∙ ap (line_for text) (unmoved detectors ts)) (step_faults step)

pub between_unmoved : (program : Listing) (detectors from to : ℕ) → moved_error_lines detectors 0 (lines_between program from to) ≡ lines_between program from to
between_unmoved program detectors from to = flat_unmoved detectors (lines_at program) (λ k. first_unmoved program detectors (drop k program.steps)) (range_with_len from (to - from))

-- ---- what a fault hits
-- a fault so many later does the same
pub record FaultAlike (program : Listing) (faults f : ℕ) : Type 0 where
  pub text : (fault_at program (f + faults)).text ≡ (fault_at program f).text
  pub word : fault_word program (f + faults) ≡ fault_word program f

same_fault : (g f faults : ℕ) → (g == f) ≡ (g + faults == f + faults)
same_fault g f faults = grind (arith, nat_tests)

flip_alike : (f faults : ℕ) (o : Option ℕ) → is_flip_of f o ≡ is_flip_of (f + faults) (option_map (λ g. g + faults) o)
flip_alike f faults None = refl
flip_alike f faults (Some g) = same_fault g f faults

recorded_alike : (f records faults : ℕ) (o : Option Recorded) → is_recorded_flip f o ≡ is_recorded_flip (f + faults) (option_map (moved_recorded records faults) o)
recorded_alike f records faults None = refl
recorded_alike f records faults (Some r) = flip_alike f faults r.flip

hits_alike : (program : Listing) (records faults f : ℕ) (step : ListedStep) (s t : Sensitivity) → FaultAlike program faults f → s.word ≡ t.word → CountsAlike records faults step s.records t.records
    → hits_at program f step s ≡ hits_at program (f + faults) (moved_step records faults step) t
hits_alike program records faults f (One gate q) s t alike words counts = refl
hits_alike program records faults f (Two gate a b) s t alike words counts = refl
hits_alike program records faults f (Collapse c r) s t alike words counts = ap₂ (λ a b. a && b) (recorded_alike f records faults r) counts
hits_alike program records faults f (Fault g) s t alike words counts = ap₂ (λ a b. a && b) (same_fault g f faults) (ap₂ anticommute words (sym alike.word))
hits_alike program records faults f (Feedback w r) s t alike words counts = refl

and_never : (b : Bool) → (b && false) ≡ false
and_never true = refl
and_never false = refl

silent_counts : (r : Option Recorded) → record_counts [] r ≡ false
silent_counts None = refl
silent_counts (Some r) = refl

never_hit : (program : Listing) (f : ℕ) (step : ListedStep) (s : Sensitivity) → s.word ≡ no_letters program.qubits → s.records ≡ [] → hits_at program f step s ≡ false
never_hit program f (One gate q) s word records = refl
never_hit program f (Two gate a b) s word records = refl
never_hit program f (Collapse c r) s word records = ap (λ b. is_recorded_flip f r && b) (ap (λ named. record_counts named r) records ∙ silent_counts r) ∙ and_never (is_recorded_flip f r)
never_hit program f (Fault g) s word records = ap (λ b. g == f && b) (ap (λ w. anticommute w (fault_word program f)) word ∙ anticommute_of_none program.qubits (fault_word program f)) ∙ and_never (g == f)
never_hit program f (Feedback w r) s word records = refl

-- ---- the lines of a step, by those of the step a period later
faults_moved : (records faults : ℕ) (step : ListedStep) → step_faults (moved_step records faults step) ≡ map (λ f. f + faults) (step_faults step)
faults_moved records faults (One gate q) = refl
faults_moved records faults (Two gate a b) = refl
faults_moved records faults (Collapse c None) = refl
faults_moved records faults (Collapse c (Some r)) = flips r.flip
  where
    flips : (o : Option ℕ) → option_to_list (option_map (λ f. f + faults) o) ≡ map (λ f. f + faults) (option_to_list o)
    flips None = refl
    flips (Some f) = refl
faults_moved records faults (Fault f) = refl
faults_moved records faults (Feedback w r) = refl

unmapped : {X Y : Type 0} (g : X → Y) (P : Y → Type 0) (xs : List X) → All P (map g xs) → All (λ x. P (g x)) xs
unmapped g P [] all = All-nil (λ x. P (g x))
unmapped g P (x ∷ xs) all = All-cons (λ x. P (g x)) x xs (All-head P (g x) (map g xs) all) (unmapped g P xs (All-tail P (g x) (map g xs) all))

-- no fault of a step hits one of the first targets that stay
abbrev pub IsClearAt : Listing → Shift → ℕ → Type 0
IsClearAt program s k =
    All (λ f. (w : ℕ) → is_within s.staying (window_end s) w ≡ true → hits_at program f (step_of program k) (sens program (k + 1) w) ≡ false) (step_faults (step_of program k))

module _ (program : Listing) (records faults period : ℕ) (s : Shift) (shift : IsShiftOf (length program.detectors) (length (targets_of program)) s) where
  abbrev later : ℕ → ℕ
  later d = later_target s d

  module _ (k : ℕ) (within : k + period < length program.steps) (moved : step_of program (k + period) ≡ moved_step records faults (step_of program k))
      (words : (d : ℕ) → (sens program (k + 1) d).word ≡ (sens program (k + period + 1) (later d)).word)
      (counted : (d : ℕ) → CountsAlike records faults (step_of program k) (sens program (k + 1) d).records (sens program (k + period + 1) (later d)).records) where
    abbrev step : ListedStep
    step = step_of program k

    -- a fault that hits none of them here, by those that it hits a turn later
    abbrev IsClearLater : ℕ → Type 0
    IsClearLater f = (w : ℕ) → is_within s.staying (window_end s) w ≡ true → hits_at program (f + faults) (moved_step records faults step) (sens program (k + period + 1) w) ≡ false

    clear_here : (f : ℕ) → FaultAlike program faults f → IsClearLater f → (w : ℕ) → is_within s.staying (window_end s) w ≡ true → hits_at program f step (sens program (k + 1) w) ≡ false
    clear_here f alike clear w inside =
        hits_alike program records faults f step (sens program (k + 1) w) (sens program (k + period + 1) (later w)) alike (words w) (counted w)
        ∙ (ap (λ d. hits_at program (f + faults) (moved_step records faults step) (sens program (k + period + 1) d)) (later_stays s w (in_low s.staying (window_end s) w inside)) ∙ clear w inside)

    hit_alike : (f : ℕ) → FaultAlike program faults f → IsClearLater f
        → hit_at program step (drop (k + 1) program.steps) f ≡ moved_list s.staying s.by (hit_at program (moved_step records faults step) (drop (k + period + 1) program.steps) (f + faults))
    hit_alike f alike clear =
        filter_alike (λ d. hits_at program f step (sens program (k + 1) d)) (λ d. there (later d)) (λ d. hits_alike program records faults f step (sens program (k + 1) d) (sens program (k + period + 1) (later d)) alike (words d) (counted d)) (range_with_len 0 (length (targets_of program)))
        ∙ subst (λ n. filter (λ d. there (later d)) (range_with_len 0 n) ≡ moved_list s.staying s.by (filter there (range_with_len 0 n))) shift.targets_is
        (filter-clear s there shift.within shift.few (subst (λ n. there n ≡ false) (sym shift.targets_is) never) clear)
      where
        there : ℕ → Bool
        there d = hits_at program (f + faults) (moved_step records faults step) (sens program (k + period + 1) d)

        never : there (length (targets_of program)) ≡ false
        never =
            let targets = length (targets_of program) in
            let silent = silent_beyond program (k + period + 1) targets (omega arith) in
            never_hit program (f + faults) (moved_step records faults step) (sens program (k + period + 1) targets) (ap (λ s. s.word) silent) (ap (λ s. s.records) silent)

    line_alike : (f : ℕ) → FaultAlike program faults f → IsClearLater f
        → line_at program step (drop (k + 1) program.steps) f ≡ moved_error_lines s.staying s.by (line_at program (moved_step records faults step) (drop (k + period + 1) program.steps) (f + faults))
    line_alike f alike clear =
        ap₂ line_for (sym alike.text) (hit_alike f alike clear)
        ∙ sym (moved_line_for s.staying s.by (fault_at program (f + faults)).text (hit_at program (moved_step records faults step) (drop (k + period + 1) program.steps) (f + faults)))

    each_alike : (fs : List ℕ) → All (FaultAlike program faults) fs → All IsClearLater fs
        → flat_map (line_at program step (drop (k + 1) program.steps)) fs
        ≡ moved_error_lines s.staying s.by (flat_map (line_at program (moved_step records faults step) (drop (k + period + 1) program.steps)) (map (λ f. f + faults) fs))
    each_alike [] alike clear = refl
    each_alike (f ∷ fs) alike clear =
        ap₂ (λ xs ys. xs ++ ys) (line_alike f (alike 0 0 (omega arith)) (clear 0 0 (omega arith))) (each_alike fs (λ i d lt. alike (suc i) d (omega (arith, lt))) (λ i d lt. clear (suc i) d (omega (arith, lt))))
        ∙ sym (moved_error_lines-append s.staying s.by (line_at program (moved_step records faults step) (drop (k + period + 1) program.steps) (f + faults)) (flat_map (line_at program (moved_step records faults step) (drop (k + period + 1) program.steps)) (map (λ f. f + faults) fs)))

    clear_later : IsClearAt program s (k + period) → All IsClearLater (step_faults step)
    clear_later clear =
        let there : All (λ g. (w : ℕ) → is_within s.staying (window_end s) w ≡ true → hits_at program g (moved_step records faults step) (sens program (k + period + 1) w) ≡ false) (map (λ f. f + faults) (step_faults step)) =
        subst (λ fs. All (λ g. (w : ℕ) → is_within s.staying (window_end s) w ≡ true → hits_at program g (moved_step records faults step) (sens program (k + period + 1) w) ≡ false) fs) (faults_moved records faults step)
        (subst (λ other. All (λ g. (w : ℕ) → is_within s.staying (window_end s) w ≡ true → hits_at program g other (sens program (k + period + 1) w) ≡ false) (step_faults other)) moved clear) in
        unmapped (λ f. f + faults) (λ g. (w : ℕ) → is_within s.staying (window_end s) w ≡ true → hits_at program g (moved_step records faults step) (sens program (k + period + 1) w) ≡ false) (step_faults step) there

    pub clear_alike : All (FaultAlike program faults) (step_faults step) → IsClearAt program s (k + period) → IsClearAt program s k
    clear_alike alike clear i d lt = clear_here _ (alike i d lt) (clear_later clear i d lt)

    pub lines_alike : All (FaultAlike program faults) (step_faults step) → IsClearAt program s (k + period) → lines_at program k ≡ moved_error_lines s.staying s.by (lines_at program (k + period))
    lines_alike alike clear =
        ap (first_lines program) (front program k (omega (arith, within)))
        ∙ (each_alike (step_faults step) alike (clear_later clear)
        ∙ ap (moved_error_lines s.staying s.by)
        (ap (flat_map (line_at program (moved_step records faults step) (drop (k + period + 1) program.steps))) (sym (faults_moved records faults step))
        ∙ (ap (λ s. flat_map (line_at program s (drop (k + period + 1) program.steps)) (step_faults s)) (sym moved)
        ∙ sym (ap (first_lines program) (front program (k + period) within)))))

-- ---- the lines of a stretch
module _ (program : Listing) (staying by from to period : ℕ)
    (alike : (k : ℕ) → from ≤ k → k < to → lines_at program k ≡ moved_error_lines staying by (lines_at program (k + period))) where
  abbrev moved : ℕ → List ErrorLine → List ErrorLine
  moved n lines = moved_error_lines staying n lines

  stretch_alike : (n a : ℕ) → from ≤ a → a + n ≤ to → lines_between program a (a + n) ≡ moved by (lines_between program (a + period) (a + period + n))
  stretch_alike zero a le most =
      let here : a ≡ a + 0 = omega arith in
      let there : a + period ≡ a + period + 0 = omega arith in
      ap (lines_between program a) (sym here)
      ∙ (lines_between-none program a ∙ ap (moved by) (sym (ap (lines_between program (a + period)) (sym there) ∙ lines_between-none program (a + period))))
  stretch_alike (suc n) a le most =
      let here : a + 1 + n ≡ a + suc n = omega arith in
      let next : a + 1 + period ≡ a + period + 1 = omega arith in
      let there : a + 1 + period + n ≡ a + period + suc n = omega arith in
      let rest : List ErrorLine = lines_between program (a + period + 1) (a + period + suc n) in
      lines_between-more program a (a + suc n) (omega arith)
      ∙ (ap₂ (λ xs ys. xs ++ ys) (alike a le (omega (arith, most)))
      (ap (lines_between program (a + 1)) (sym here)
      ∙ (stretch_alike n (a + 1) (omega (arith, le)) (omega (arith, most)) ∙ ap₂ (λ i j. moved by (lines_between program i j)) next there))
      ∙ (sym (moved_error_lines-append staying by (lines_at program (a + period)) rest)
      ∙ ap (moved by) (sym (lines_between-more program (a + period) (a + period + suc n) (omega arith)))))

  turn_alike : (j : ℕ) → from + suc j * period ≤ to → lines_between program (to - suc j * period) (to - j * period) ≡ moved (suc j * by) (lines_between program to (to + period))
  turn_alike zero le =
      let one : 1 * period ≡ period = omega arith in
      let none : 0 * period ≡ 0 = omega arith in
      let once : by ≡ 1 * by = omega arith in
      let a = to - 1 * period in
      let end : to - 0 * period ≡ a + period = omega (arith, le, one, none) in
      let start : a + period ≡ to = omega (arith, le, one) in
      ap (lines_between program a) end
      ∙ (stretch_alike period a (omega (arith, le)) (omega (arith, start))
      ∙ (ap (λ k. moved by (lines_between program k (k + period))) start ∙ ap (λ n. moved n (lines_between program to (to + period))) once))
  turn_alike (suc j) le =
      let more : suc (suc j) * period ≡ suc j * period + period = omega arith in
      let less : suc j * period ≡ j * period + period = omega arith in
      let sum : by + suc j * by ≡ suc (suc j) * by = omega arith in
      let a = to - suc (suc j) * period in
      let end : to - suc j * period ≡ a + period = omega (arith, le, more) in
      let later_end : a + period + period ≡ to - j * period = omega (arith, le, more, less) in
      ap (lines_between program a) end
      ∙ (stretch_alike period a (omega (arith, le)) (omega (arith, le, more))
      ∙ (ap₂ (λ i k. moved by (lines_between program i k)) (sym end) later_end
      ∙ (ap (moved by) (turn_alike j (omega (arith, le, more)))
      ∙ (moved_lines_twice staying by (suc j * by) (lines_between program to (to + period)) ∙ ap (λ n. moved n (lines_between program to (to + period))) sum))))

  pub turns_alike : (j : ℕ) → from + j * period ≤ to → lines_between program (to - j * period) to ≡ turn_lines staying by j (lines_between program to (to + period))
  turns_alike zero le = let none : to - 0 * period ≡ to = omega arith in ap (λ k. lines_between program k to) none ∙ lines_between-none program to
  turns_alike (suc j) le =
      let more : suc j * period ≡ j * period + period = omega arith in
      sym (lines_between-parts program (to - suc j * period) (to - j * period) to (omega (arith, more)) (omega arith))
      ∙ ap₂ (λ xs ys. xs ++ ys) (turn_alike j le) (turns_alike j (omega (arith, le, more)))
