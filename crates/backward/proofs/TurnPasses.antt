-- What is kept of going back to a place, where turns that repeat were gone back over at once.
use Rattle.std.proofs.Common.{◌≡◌, ◌||◌, ◌⊎◌, ℕ, zero, suc, ◌+◌, ◌-◌, ◌*◌, ◌<◌, ◌≤◌, Bool, true, false, List, [], ◌∷◌, ◌++◌, map, length, drop, get_or, Option, None, Some, inl, inr, refl, ap, ap₂, subst, sym, ◌∙◌, arith}
use Rattle.std.specs.Prelude.{All, option_map, replicate, take}
use Rattle.std.specs.List.{range_with_len}
use Rattle.std.proofs.lemmas.Bool.{cases_lt, ne_eqb}
use Rattle.std.proofs.lemmas.Bool.Decides.{nat_tests}
use Rattle.std.proofs.lemmas.List.{get_or-replicate, get_or_past, length-replicate, take-append-drop}
use Rattle.std.proofs.lemmas.List.FromFn.{length-map-range_with_len, get_or-map-range_with_len, fill_by_all}
use Rattle.pauli_word.specs.Words.{anticommute, no_letters}
use Rattle.pauli_word.proofs.WordLaws.{anticommute_comm, anticommute_of_none}
use Rattle.step_model.specs.Listing.{Listing, ListedStep}
use Rattle.step_model.specs.Sensitivities.{collapse_word, latest_place, later_or_here}
use Rattle.step_model.specs.Targets.{is_listed, target_at, targets_of}
use Rattle.step_model.specs.TargetSets.{members}
use Rattle.step_model.specs.WellFormed.{IsWellFormed, collapse_count, step_faults}
use Rattle.step_model.proofs.MemberLemmas.{among_members, map_range_below, members_within}
use Rattle.circuit_walk.specs.Turns.{Repeat, moved_step}
use Rattle.record_targets.specs.ListingSets.{listing_set, sensitivity_before}
use Rattle.trackers.specs.Tracked.{Tracked, is_among, listed_word, restored}
use Rattle.backward.specs.declared.moved.Shift.{Shift}
use Rattle.backward.specs.private.MovedTargets.{IsShiftOf, earlier_list, grown_lists, later_target, later_turns}
use Rattle.backward.proofs.ClearLines.{clear_between}
use Rattle.backward.proofs.GrownLists.{later_stays}
use Rattle.backward.specs.private.Passes.{IsJudged, records_before, tracked_before}
use Rattle.backward.specs.private.Repeats.{AreMoved, AreRepeated, NonePlaced}
use Rattle.backward.specs.private.Points.{Keeps}
use Rattle.backward.proofs.PassWords.{words_at, words_count}
use Rattle.backward.proofs.MovedLemmas.{is_among-earlier, listed_word-beyond, listed_word-earlier, listed_word-grown}
use Rattle.backward.specs.private.Stretches.{lines_at, lines_between}
use Rattle.backward.specs.private.TurnLines.{AreClear, moved_error_lines, turn_lines}
use Rattle.backward.proofs.LinesTurned.{FaultAlike, IsClearAt, clear_alike, lines_alike, turns_alike}
use Rattle.backward.proofs.TurnLemmas.{CountsAlike, ListedAt, alike_before, counted_alike, moved_at, none_before, sens, silent_always, silent_beyond, step_of}

collapse_count-append : (steps back : List ListedStep) → collapse_count (steps ++ back) ≡ collapse_count steps + collapse_count back
collapse_count-append [] back = omega arith
collapse_count-append (step ∷ steps) back = let rest = collapse_count-append steps back in omega (arith, rest)

module _ (program : Listing) where
  -- what a target's list says of a record
  listed_by : (steps : List ListedStep) (r d : ℕ) → d < length (targets_of program) → is_listed (sensitivity_before program steps d).records r ≡ is_among (members (listing_set program steps r)) d
  listed_by steps r d lt =
      let lists : ℕ → Bool = λ t. is_listed (sensitivity_before program steps t).records r in
      let long = length-map-range_with_len lists 0 (length (targets_of program)) in
      sym (among_members (listing_set program steps r) d (omega (arith, lt, long)) ∙ get_or-map-range_with_len lists 0 (length (targets_of program)) d d false lt (omega arith))

  abbrev pub target_count : ℕ
  target_count = length (targets_of program)

  stays_beyond : (s : Shift) → IsShiftOf (length program.detectors) target_count s → (d : ℕ) → target_count ≤ d → later_target s d ≡ d
  stays_beyond s shift d le =
      let within = shift.within in
      let few = shift.few in
      let is = shift.targets_is in
      later_stays s d (omega (arith, within, few, is, le))

  -- any number but that of the targets
  within_targets : (s : Shift) → IsShiftOf (length program.detectors) target_count s → (n d : ℕ) → d ≤ target_count → later_turns s n d ≤ target_count
  within_targets s shift zero d le = le
  within_targets s shift (suc n) d le =
      within_targets s shift n (later_target s d)
      (let top = shift.few in let is = shift.targets_is in grind (arith, nat_tests, le, top, is))

  none_among : (ts : List ℕ) (t targets : ℕ) → All (λ u. u < targets) ts → targets ≤ t → is_among ts t ≡ false
  none_among [] t targets all le = refl
  none_among (u ∷ ts) t targets all le =
      let lt : u < targets = all 0 0 (omega arith) in
      ap₂ (λ a b. a || b) (ne_eqb t u (λ e. omega (arith, e, lt, le))) (none_among ts t targets (λ k d lt. all (suc k) d (omega (arith, lt))) le)

  -- the same of two records of which one has the other's list one turn earlier, for any number
  listed_by_both : (s : Shift) → IsShiftOf (length program.detectors) target_count s → (k later r q d : ℕ)
      → members (listing_set program (drop k program.steps) r) ≡ earlier_list s (members (listing_set program (drop later program.steps) q))
      → is_listed (sens program k d).records r ≡ is_listed (sens program later (later_target s d)).records q
  listed_by_both s shift k later r q d same = either (cases_lt d target_count)
    where
      silent_there : (j t q : ℕ) → target_count ≤ t → is_listed (sens program j t).records q ≡ false
      silent_there j t q le = ap (λ s. is_listed s.records q) (silent_beyond program j t le)

      named : All (λ t. t < target_count) (members (listing_set program (drop later program.steps) q))
      named =
          let lists : ℕ → Bool = λ t. is_listed (sensitivity_before program (drop later program.steps) t).records q in
          let long = length-map-range_with_len lists 0 target_count in
          subst (λ m. All (λ t. t < m) (members (listing_set program (drop later program.steps) q))) long (members_within (listing_set program (drop later program.steps) q))

      there : (t : ℕ) → is_among (members (listing_set program (drop later program.steps) q)) t ≡ is_listed (sens program later t).records q
      there t = elim (cases_lt t target_count) as (λ _. is_among (members (listing_set program (drop later program.steps) q)) t ≡ is_listed (sens program later t).records q) [
        | inl lt ↦ sym (listed_by (drop later program.steps) q t lt)
        | inr le ↦ none_among (members (listing_set program (drop later program.steps) q)) t target_count named le ∙ sym (silent_there later t q le)
      ]

      either : (d < target_count) ⊎ (target_count ≤ d) → is_listed (sens program k d).records r ≡ is_listed (sens program later (later_target s d)).records q
      either (inl lt) =
          listed_by (drop k program.steps) r d lt
          ∙ (ap (λ l. is_among l d) same
          ∙ (is_among-earlier s shift.within shift.few d (members (listing_set program (drop later program.steps) q)) (subst (λ m. All (λ t. t < m) (members (listing_set program (drop later program.steps) q))) (sym shift.targets_is) named)
          ∙ there (later_target s d)))
      either (inr le) = silent_there k d r le ∙ sym (ap (λ t. is_listed (sens program later t).records q) (stays_beyond s shift d le) ∙ silent_there later d q le)

  -- lists that keep the words at a place
  named_within : (lists : List (List ℕ)) (k : ℕ) → Keeps (tracked_before program (drop k program.steps)) lists → All (All (λ t. t < target_count)) lists
  named_within lists k keeps = subst (λ m. All (All (λ t. t < m)) lists) (words_count program (drop k program.steps)) keeps.fit.named

  kept_word : (lists : List (List ℕ)) (k d : ℕ) → Keeps (tracked_before program (drop k program.steps)) lists → d ≤ target_count → listed_word lists d ≡ (sens program k d).word
  kept_word lists k d keeps le = either (cases_lt d target_count)
    where
      either : (d < target_count) ⊎ (target_count ≤ d) → listed_word lists d ≡ (sens program k d).word
      either (inl lt) =
          sym (get_or-map-range_with_len (listed_word lists) 0 (length (tracked_before program (drop k program.steps)).words) d d [] (let count = words_count program (drop k program.steps) in omega (arith, lt, count)) (omega arith))
          ∙ (ap (λ (u : Tracked). get_or u.words d []) keeps.words ∙ words_at program (drop k program.steps) d lt)
      either (inr ge) =
          let e : d ≡ target_count = omega (arith, ge, le) in
          ap (listed_word lists) e ∙ (listed_word-beyond target_count target_count program.qubits lists (omega arith) keeps.fit.two_each (named_within lists k keeps) ∙ sym (ap (λ s. s.word) (silent_beyond program k d ge)))

  -- where those at an earlier place are these, one turn earlier, so are the words
  pub moved_first : (s : Shift) → IsShiftOf (length program.detectors) target_count s → (lists later_lists : List (List ℕ)) (k later : ℕ) → Keeps (tracked_before program (drop k program.steps)) lists → Keeps (tracked_before program (drop later program.steps)) later_lists
      → lists ≡ map (earlier_list s) later_lists → AreMoved program s k later
  moved_first s shift lists later_lists k later keeps later_keeps same d = either (cases_lt d target_count)
    where
      either : (d < target_count) ⊎ (target_count ≤ d) → (sens program k d).word ≡ (sens program later (later_target s d)).word
      either (inl lt) =
          sym (kept_word lists k d keeps (omega (arith, lt)))
          ∙ (ap (λ l. listed_word l d) same
          ∙ (listed_word-earlier s shift.within shift.few d later_lists (subst (λ m. All (All (λ t. t < m)) later_lists) (sym shift.targets_is) (named_within later_lists later later_keeps))
          ∙ kept_word later_lists later (later_target s d) later_keeps (within_targets s shift 1 d (omega (arith, lt)))))
      either (inr ge) =
          ap (λ s. s.word) (silent_beyond program k d ge)
          ∙ sym (ap (λ t. (sens program later t).word) (stays_beyond s shift d ge) ∙ ap (λ s. s.word) (silent_beyond program later d ge))

  -- what a program with turns that repeat is known by, at a place `to` with the same place one period later
  pub record Knows (from to period faults low : ℕ) (s : Shift) : Type 0 where
    pub fits : IsWellFormed program
    pub repeat : Repeat program.steps from to period (records_before program (to + period) - records_before program to) faults
    pub back : from ≤ to
    pub some : 0 < period
    pub lowest : low ≤ records_before program from
    pub shift : IsShiftOf (length program.detectors) target_count s
    pub moved : AreMoved program s to (to + period)
    pub repeated : AreRepeated program s low to (to + period)
    pub clear : AreClear s (lines_between program to (to + period))

  module _ (from to period faults low : ℕ) (s : Shift) (h : Knows from to period faults low s) where
    abbrev records : ℕ
    records = records_before program (to + period) - records_before program to

    listed_first : ListedAt program from to period records faults h.repeat (later_target s) low to
    listed_first d r above below = listed_by_both s h.shift to (to + period) r (r + records) d (h.repeated r above below)

    counted : (k : ℕ) → from ≤ k → k < to → (d : ℕ) → CountsAlike records faults (step_of program k) (sens program (k + 1) d).records (sens program (k + period + 1) (later_target s d)).records
    counted = counted_alike program from to period records faults h.repeat (later_target s) low h.fits h.lowest h.moved listed_first

    -- the words at each place, by those one turn later
    pub alike_all : (k : ℕ) → from ≤ k → k ≤ to → AreMoved program s k (k + period)
    alike_all k le lt = alike_before program from to period records faults h.repeat (later_target s) low h.fits h.lowest h.moved listed_first k le lt

    -- and by those where the turns begin to repeat
    pub alike_turns : (i : ℕ) → from + i * period ≤ to → (d : ℕ) → (sens program (to - i * period) d).word ≡ (sens program to (later_turns s i d)).word
    alike_turns zero le d = let e : to - 0 * period ≡ to = omega arith in ap (λ k. (sens program k d).word) e
    alike_turns (suc i) le d =
        let more : suc i * period ≡ i * period + period = omega arith in
        let e : to - suc i * period + period ≡ to - i * period = omega (arith, le, more) in
        alike_all (to - suc i * period) (omega (arith, le)) (omega arith) d
        ∙ (ap (λ k. (sens program k (later_target s d)).word) e ∙ alike_turns i (omega (arith, le, more)) (later_target s d))

    -- lists that keep the words there keep, so many turns earlier, those of an earlier turn
    pub words_turns : (lists : List (List ℕ)) (t : Tracked) (i : ℕ) → from + i * period ≡ to → Keeps (tracked_before program (drop to program.steps)) lists → t.qubits ≡ program.qubits → length t.words ≡ target_count
        → restored (grown_lists s i lists) t ≡ tracked_before program (drop from program.steps)
    words_turns lists t i is keeps qubits size =
        ap₂ (λ n words. record { qubits = n; words = words }) qubits
        (ap (λ m. map (listed_word (grown_lists s i lists)) (range_with_len 0 m)) size
        ∙ map_range_below (listed_word (grown_lists s i lists)) (λ d. (sens program from d).word) 0 target_count (λ d lt. word d (omega (arith, lt))))
      where
        word : (d : ℕ) → d < target_count → listed_word (grown_lists s i lists) d ≡ (sens program from d).word
        word d lt =
            let e : to - i * period ≡ from = omega (arith, is) in
            listed_word-grown s h.shift.within h.shift.few i d lists (subst (λ m. All (All (λ t. t < m)) lists) (sym h.shift.targets_is) (named_within lists to keeps))
            ∙ (kept_word lists to (later_turns s i d) keeps (within_targets s h.shift i d (omega (arith, lt)))
            ∙ (sym (alike_turns i (omega (arith, is)) d) ∙ ap (λ k. (sens program k d).word) e))

    module _ (alike : (k : ℕ) → from ≤ k → k < to → All (FaultAlike program faults) (step_faults (step_of program k))) where
      next_words : (k : ℕ) → from ≤ k → k < to → (d : ℕ) → (sens program (k + 1) d).word ≡ (sens program (k + period + 1) (later_target s d)).word
      next_words k le lt d =
          let next : k + 1 + period ≡ k + period + 1 = omega arith in
          alike_all (k + 1) (omega (arith, le)) (omega (arith, lt)) d ∙ ap (λ j. (sens program j (later_target s d)).word) next

      within_steps : (k : ℕ) → k < to → k + period < length program.steps
      within_steps k lt = let within = h.repeat.within in omega (arith, lt, within)

      moved_there : (k : ℕ) → from ≤ k → k < to → step_of program (k + period) ≡ moved_step records faults (step_of program k)
      moved_there = moved_at program from to period records faults h.repeat (later_target s)

      -- no fault of the turns hits one of the first targets that stay
      clear_for : (i : ℕ) → from + i ≤ to → (k : ℕ) → to - i ≤ k → k < to + period → IsClearAt program s k
      clear_for zero le k low lt = clear_between program s h.shift to (to + period) k h.repeat.within h.clear (omega (arith, low)) lt
      clear_for (suc i) le k low lt =
          elim (cases_lt k (to - i)) as (λ _. IsClearAt program s k) [
            | inl here ↦ (
                let some = h.some in
                clear_alike program records faults period s h.shift k (within_steps k (omega (arith, here))) (moved_there k (omega (arith, low, le)) (omega (arith, here)))
                (next_words k (omega (arith, low, le)) (omega (arith, here))) (counted k (omega (arith, low, le)) (omega (arith, here))) (alike k (omega (arith, low, le)) (omega (arith, here)))
                (clear_for i (omega (arith, le)) (k + period) (omega (arith, some, low, le)) (omega (arith, here))))
            | inr past ↦ clear_for i (omega (arith, le)) k past lt
          ]

      clear_all : (k : ℕ) → from ≤ k → k < to + period → IsClearAt program s k
      clear_all k le lt = let back = h.back in clear_for (to - from) (omega (arith, back)) k (omega (arith, le, back)) lt

      -- the lines, where the faults do the same
      pub lines_turned : (i : ℕ) → from + i * period ≡ to → lines_between program from to ≡ turn_lines s.staying s.by i (lines_between program to (to + period))
      lines_turned i is =
          let start : to - i * period ≡ from = omega (arith, is) in
          sym (ap (λ k. lines_between program k to) start) ∙ turns_alike program s.staying s.by from to period at_each i (omega (arith, is))
        where
          at_each : (k : ℕ) → from ≤ k → k < to → lines_at program k ≡ moved_error_lines s.staying s.by (lines_at program (k + period))
          at_each k le lt =
              let some = h.some in
              lines_alike program records faults period s h.shift k (within_steps k lt) (moved_there k le lt) (next_words k le lt) (counted k le lt) (alike k le lt) (clear_all (k + period) (omega (arith, le)) (omega (arith, lt)))

    pub none_turns : NonePlaced program to → NonePlaced program from
    none_turns none = none_before program from to period records faults h.repeat (later_target s) low h.fits h.lowest h.moved listed_first from (omega arith) h.back h.some none

  -- where no target has a place, none is noted
  pub judged_turns : (settled : Bool) (place : ℕ) (latest : List (Option ℕ)) (left : ℕ) → IsWellFormed program → length latest ≡ 0 → (settled ≡ false → NonePlaced program place) → (settled ≡ false → left ≡ collapse_count (take place program.steps))
      → IsJudged program settled place latest left
  judged_turns true place latest left fits none placed counted = tt
  judged_turns false place [] left fits none placed counted = (
    fill_by_all (λ d. option_map (λ k. left + k) (latest_place program.qubits (target_at program d) (drop place program.steps))) (replicate target_count None) target_count None (length-replicate target_count None)
        (λ k lt. get_or-replicate target_count k None None lt ∙ sym (ap (option_map (λ j. left + j)) (placed refl k))),
    (let split = collapse_count-append (take place program.steps) (drop place program.steps) in
        let whole = ap collapse_count (take-append-drop place program.steps) in
        let left_is = counted refl in
        let all = fits.collapses_counted in
        omega (arith, split, whole, left_is, all)),
  )
  judged_turns false place (o ∷ latest) left fits none placed counted = absurd (omega (arith, none))

  -- where none is noted, no target has a place
  unplaced : (k : ℕ) (o : Option ℕ) → option_map (λ j. k + j) o ≡ None → o ≡ None
  unplaced k None e = refl
  unplaced k (Some j) e = absurd cc

  silent_place : (steps : List ListedStep) → latest_place program.qubits [] steps ≡ None
  silent_place [] = refl
  silent_place (step ∷ steps) =
      ap₂ (later_or_here step) (silent_place steps)
      (ap (λ s. anticommute (collapse_word program.qubits step) s.word) (silent_always program.qubits steps)
      ∙ (anticommute_comm (collapse_word program.qubits step) (no_letters program.qubits) ∙ anticommute_of_none program.qubits (collapse_word program.qubits step)))

  pub none_noted : (settled : Bool) (place : ℕ) (latest : List (Option ℕ)) (left : ℕ) → length latest ≡ 0 → IsJudged program settled place latest left → settled ≡ false → NonePlaced program place
  none_noted true place latest left none judged e = absurd cc
  none_noted false place (o ∷ latest) left none judged e = absurd (omega (arith, none))
  none_noted false place [] left none judged e = λ d. either d (cases_lt d target_count)
    where
      here : ℕ → Option ℕ
      here t = option_map (λ j. left + j) (latest_place program.qubits (target_at program t) (drop place program.steps))

      either : (d : ℕ) → (d < target_count) ⊎ (target_count ≤ d) → latest_place program.qubits (target_at program d) (drop place program.steps) ≡ None
      either d (inl lt) =
          unplaced left _
          (sym (get_or-map-range_with_len here 0 target_count d d None lt (omega arith)) ∙ (ap (λ l. get_or l d None) (sym judged.0) ∙ get_or-replicate target_count d None None lt))
      either d (inr ge) = ap (λ named. latest_place program.qubits named (drop place program.steps)) (get_or_past (targets_of program) d [] ge) ∙ silent_place (drop place program.steps)
