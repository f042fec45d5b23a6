-- Turns of a block that repeat: where the words at a place are those of the same place one turn later, moved to earlier detectors, and
-- so are the lists of the records before it, both are so at each place before it whose steps are those a turn later.
use Rattle.std.proofs.Common.{◌≡◌, ℕ, zero, suc, ◌+◌, ◌-◌, ◌<◌, ◌≤◌, eqb, Bool, true, false, if◌then◌else◌, List, [], ◌∷◌, length, drop, get_or, Option, None, Some, refl, ap, ap₂, subst, sym, ◌∙◌, arith}
use Rattle.std.specs.Prelude.{⊤, option_map}
use Rattle.std.proofs.lemmas.Bool.Decides.{nat_tests}
use Rattle.std.proofs.lemmas.List.{drop_more, get_or_past}
use Rattle.std.proofs.lemmas.Option.{get_or_from_slice_get, slice_get-get_or}
use Rattle.pauli_word.specs.declared.letter.Letter.TheVariants.{I}
use Rattle.pauli_word.specs.Parity.{exclusive_or}
use Rattle.pauli_word.specs.Words.{anticommute, no_letters, signed}
use Rattle.pauli_word.proofs.WordLaws.{anticommute_of_none}
use Rattle.gate_table.proofs.WordImageLaws.{image_at-none, none_set}
use Rattle.gate_table.proofs.PairImageLaws.{image_at_two-none}
use Rattle.gate_table.specs.Images.{inverse_of}
use Rattle.step_model.specs.Listing.{Listing, ListedStep, One, Two, Collapse, Fault, Feedback, Measured, Word, Reset, Recorded, measured_word}
use Rattle.step_model.specs.Sensitivities.{Sensitivity, sensitivity, sensitivity_before, cleared, collapse_word, latest_place, later_or_here, multiplied, record_counts}
use Rattle.step_model.specs.Targets.{is_listed, target_at, targets_of}
use Rattle.step_model.specs.WellFormed.{IsWellFormed}
use Rattle.circuit_walk.specs.Turns.{Repeat, moved_recorded, moved_step}
use Rattle.backward.specs.private.Passes.{IsStepAt, records_before}
use Rattle.backward.specs.private.Repeats.{NonePlaced}
use Rattle.backward.proofs.PassRecords.{record_there, records_before-earlier, records_before-more}
use Rattle.gate_table.specs.WordImages.{preimage_at, preimage_at_two}

-- ---- a target with no records: no fault flips it
none_cleared : (c : Measured) (n : ℕ) → cleared c (no_letters n) ≡ no_letters n
none_cleared (Word w) n = refl
none_cleared (Reset letter q) n = none_set n q I refl

none_counts : (r : Option Recorded) → record_counts [] r ≡ false
none_counts None = refl
none_counts (Some r) = refl

abbrev silent : ℕ → Sensitivity
silent n = record { word = no_letters n; records = [] }

silent_before : (n : ℕ) (step : ListedStep) → sensitivity_before n step (silent n) ≡ silent n
silent_before n (One gate q) = ap (λ s. record { word = s.letters; records = [] }) (image_at-none (inverse_of gate) q n false)
silent_before n (Two gate a b) = ap (λ s. record { word = s.letters; records = [] }) (image_at_two-none (inverse_of gate) a b n false)
silent_before n (Collapse c r) =
    ap₂ (λ b w. record { word = multiplied b (measured_word n c) w; records = [] }) (none_counts r) (none_cleared c n)
silent_before n (Fault f) = refl
silent_before n (Feedback w r) = ap (λ b. record { word = no_letters n; records = if b then r ∷ [] else [] }) (anticommute_of_none n w)

pub silent_always : (n : ℕ) (steps : List ListedStep) → sensitivity n [] steps ≡ silent n
silent_always n [] = refl
silent_always n (step ∷ steps) = ap (sensitivity_before n step) (silent_always n steps) ∙ silent_before n step

-- ---- one step, where records count alike
abbrev pub CountsAlike : ℕ → ℕ → ListedStep → List ℕ → List ℕ → Type 0
CountsAlike records faults (One gate q) named later = ⊤
CountsAlike records faults (Two gate a b) named later = ⊤
CountsAlike records faults (Collapse c r) named later = record_counts named r ≡ record_counts later (option_map (moved_recorded records faults) r)
CountsAlike records faults (Fault f) named later = ⊤
CountsAlike records faults (Feedback w r) named later = ⊤

step_alike : (n records faults : ℕ) (step : ListedStep) (s t : Sensitivity) → s.word ≡ t.word → CountsAlike records faults step s.records t.records
    → (sensitivity_before n step s).word ≡ (sensitivity_before n (moved_step records faults step) t).word
step_alike n records faults (One gate q) s t e alike = ap (λ w. (preimage_at gate q (signed w false)).letters) e
step_alike n records faults (Two gate a b) s t e alike = ap (λ w. (preimage_at_two gate a b (signed w false)).letters) e
step_alike n records faults (Collapse c r) s t e alike = ap₂ (λ b w. multiplied b (measured_word n c) (cleared c w)) alike e
step_alike n records faults (Fault f) s t e alike = e
step_alike n records faults (Feedback w r) s t e alike = e

collapse_word_moved : (n records faults : ℕ) (step : ListedStep) → collapse_word n (moved_step records faults step) ≡ collapse_word n step
collapse_word_moved n records faults (One gate q) = refl
collapse_word_moved n records faults (Two gate a b) = refl
collapse_word_moved n records faults (Collapse c r) = refl
collapse_word_moved n records faults (Fault f) = refl
collapse_word_moved n records faults (Feedback w r) = refl

none_here : (step : ListedStep) (o : Option ℕ) (b : Bool) → later_or_here step o b ≡ None → (o ≡ None) × (b ≡ false)
none_here step (Some k) b e = absurd cc
none_here step None true e = absurd cc
none_here step None false e = (refl, refl)

-- ---- one step, where a record is listed alike
both_moved : (q r records : ℕ) → eqb q r ≡ eqb (q + records) (r + records)
both_moved q r records = grind (arith, nat_tests)

listed_alike : (n records faults : ℕ) (step : ListedStep) (s t : Sensitivity) (r : ℕ) → s.word ≡ t.word → is_listed s.records r ≡ is_listed t.records (r + records)
    → is_listed (sensitivity_before n step s).records r ≡ is_listed (sensitivity_before n (moved_step records faults step) t).records (r + records)
listed_alike n records faults (One gate q) s t r e alike = alike
listed_alike n records faults (Two gate a b) s t r e alike = alike
listed_alike n records faults (Collapse c o) s t r e alike = alike
listed_alike n records faults (Fault f) s t r e alike = alike
listed_alike n records faults (Feedback w q) s t r e alike = ap (λ v. is_listed (if anticommute v w then q ∷ s.records else s.records) r) e ∙ fed (anticommute t.word w)
  where
    fed : (b : Bool) → is_listed (if b then q ∷ s.records else s.records) r ≡ is_listed (if b then (q + records) ∷ t.records else t.records) (r + records)
    fed true = ap₂ exclusive_or (both_moved q r records) alike
    fed false = alike

-- ---- places of a program
module _ (program : Listing) where
  abbrev pub sens : ℕ → ℕ → Sensitivity
  sens k d = sensitivity program.qubits (target_at program d) (drop k program.steps)

  abbrev pub step_of : ℕ → ListedStep
  step_of k = get_or program.steps k (Fault 0)

  pub front : (k : ℕ) → k < length program.steps → drop k program.steps ≡ step_of k ∷ drop (k + 1) program.steps
  front k lt = drop_more program.steps k (Fault 0) lt

  sens_front : (k d : ℕ) → k < length program.steps → sens k d ≡ sensitivity_before program.qubits (step_of k) (sens (k + 1) d)
  sens_front k d lt = ap (sensitivity program.qubits (target_at program d)) (front k lt)

  -- a number that no target has
  pub silent_beyond : (k d : ℕ) → length (targets_of program) ≤ d → sens k d ≡ silent program.qubits
  silent_beyond k d le = ap (λ named. sensitivity program.qubits named (drop k program.steps)) (get_or_past (targets_of program) d [] le) ∙ silent_always program.qubits (drop k program.steps)

  none_placed_front : (k : ℕ) → k < length program.steps → NonePlaced program k → NonePlaced program (k + 1) × ((d : ℕ) → anticommute (collapse_word program.qubits (step_of k)) (sens (k + 1) d).word ≡ false)
  none_placed_front k lt none = (λ d. (both d).0, λ d. (both d).1)
    where
      both : (d : ℕ) → (latest_place program.qubits (target_at program d) (drop (k + 1) program.steps) ≡ None) × (anticommute (collapse_word program.qubits (step_of k)) (sens (k + 1) d).word ≡ false)
      both d = none_here (step_of k) _ _ (sym (ap (latest_place program.qubits (target_at program d)) (front k lt)) ∙ none d)

  none_placed_later : (j k : ℕ) → k + j ≤ length program.steps → NonePlaced program k → NonePlaced program (k + j)
  none_placed_later zero k le none = subst (NonePlaced program) (let e : k ≡ k + 0 = omega arith in e) none
  none_placed_later (suc j) k le none =
      subst (NonePlaced program) (let e : k + 1 + j ≡ k + suc j = omega arith in e)
      (none_placed_later j (k + 1) (omega (arith, le)) (none_placed_front k (omega (arith, le)) none).0)

  -- steps that repeat
  module _ (from to period records faults : ℕ) (repeat : Repeat program.steps from to period records faults) (later : ℕ → ℕ) where
    pub moved_at : (k : ℕ) → from ≤ k → k < to → step_of (k + period) ≡ moved_step records faults (step_of k)
    moved_at k le lt =
        let within = repeat.within in
        get_or_from_slice_get program.steps (k + period) (moved_step records faults (step_of k)) (Fault 0)
        (repeat.each k le lt ∙ ap (option_map (moved_step records faults)) (slice_get-get_or program.steps k (Fault 0) (omega (arith, lt, within))))

    abbrev pub AlikeAt : ℕ → Type 0
    AlikeAt k = (d : ℕ) → (sens k d).word ≡ (sens (k + period) (later d)).word

    -- the lists of the records before a place, from a number on
    abbrev pub ListedAt : ℕ → ℕ → Type 0
    ListedAt low k = (d r : ℕ) → low ≤ r → r < records_before program k → is_listed (sens k d).records r ≡ is_listed (sens (k + period) (later d)).records (r + records)

    module _ (low : ℕ) (fits : IsWellFormed program) (lowest : low ≤ records_before program from) (first : AlikeAt to) (listed : ListedAt low to) where
      counted_here : (k : ℕ) → from ≤ k → k < to → ListedAt low (k + 1) → (d : ℕ) → CountsAlike records faults (step_of k) (sens (k + 1) d).records (sens (k + period + 1) (later d)).records
      counted_here k le lt h d = by_step (step_of k) refl
        where
          by_record : (c : Measured) (o : Option Recorded) → step_of k ≡ Collapse c o → record_counts (sens (k + 1) d).records o ≡ record_counts (sens (k + period + 1) (later d)).records (option_map (moved_recorded records faults) o)
          by_record c None is = refl
          by_record c (Some r) is = h d r.number (omega (arith, lowest, up, number)) (omega (arith, one, number)) ∙ ap (λ j. is_listed (sens j (later d)).records (r.number + records)) next
            where
              within : to + period ≤ length program.steps
              within = repeat.within

              at : IsStepAt program k (Collapse c (Some r))
              at = front k (omega (arith, lt, within)) ∙ ap (λ step. step ∷ drop (k + 1) program.steps) is

              number : r.number ≡ records_before program k
              number = record_there program k c r fits at

              one : records_before program (k + 1) ≡ records_before program k + 1
              one = records_before-more program k (Collapse c (Some r)) at

              up : records_before program from ≤ records_before program k
              up = records_before-earlier program from k le

              next : k + 1 + period ≡ k + period + 1
              next = omega arith

          by_step : (step : ListedStep) → step_of k ≡ step → CountsAlike records faults step (sens (k + 1) d).records (sens (k + period + 1) (later d)).records
          by_step (One gate q) is = tt
          by_step (Two gate a b) is = tt
          by_step (Collapse c o) is = by_record c o is
          by_step (Fault f) is = tt
          by_step (Feedback w r) is = tt

      words_front : (k : ℕ) → from ≤ k → k < to → AlikeAt (k + 1) → ListedAt low (k + 1) → AlikeAt k
      words_front k le lt words lists d =
          let within = repeat.within in
          let next : k + 1 + period ≡ k + period + 1 = omega arith in
          ap (λ s. s.word) (sens_front k d (omega (arith, lt, within)))
          ∙ step_alike program.qubits records faults (step_of k) (sens (k + 1) d) (sens (k + period + 1) (later d)) (words d ∙ ap (λ j. (sens j (later d)).word) next) (counted_here k le lt lists d)
          ∙ ap (λ step. (sensitivity_before program.qubits step (sens (k + period + 1) (later d))).word) (sym (moved_at k le lt))
          ∙ sym (ap (λ s. s.word) (sens_front (k + period) (later d) (omega (arith, lt, within))))

      lists_front : (k : ℕ) → from ≤ k → k < to → AlikeAt (k + 1) → ListedAt low (k + 1) → ListedAt low k
      lists_front k le lt words lists d r above below =
          let within = repeat.within in
          let next : k + 1 + period ≡ k + period + 1 = omega arith in
          let up = records_before-earlier program k (k + 1) (omega arith) in
          ap (λ s. is_listed s.records r) (sens_front k d (omega (arith, lt, within)))
          ∙ listed_alike program.qubits records faults (step_of k) (sens (k + 1) d) (sens (k + period + 1) (later d)) r (words d ∙ ap (λ j. (sens j (later d)).word) next)
          (lists d r above (omega (arith, below, up)) ∙ ap (λ j. is_listed (sens j (later d)).records (r + records)) next)
          ∙ ap (λ step. is_listed (sensitivity_before program.qubits step (sens (k + period + 1) (later d))).records (r + records)) (sym (moved_at k le lt))
          ∙ sym (ap (λ s. is_listed s.records (r + records)) (sens_front (k + period) (later d) (omega (arith, lt, within))))

      both_from : (i : ℕ) → from + i ≤ to → AlikeAt (to - i) × ListedAt low (to - i)
      both_from zero le = let e : to ≡ to - 0 = omega arith in subst (λ k. AlikeAt k × ListedAt low k) e (first, listed)
      both_from (suc i) le =
          let e : to - suc i + 1 ≡ to - i = omega (arith, le) in
          let both : AlikeAt (to - suc i + 1) × ListedAt low (to - suc i + 1) = subst (λ k. AlikeAt k × ListedAt low k) (sym e) (both_from i (omega (arith, le))) in
          (words_front (to - suc i) (omega (arith, le)) (omega (arith, le)) both.0 both.1, lists_front (to - suc i) (omega (arith, le)) (omega (arith, le)) both.0 both.1)

      both_before : (k : ℕ) → from ≤ k → k ≤ to → AlikeAt k × ListedAt low k
      both_before k le lt = let e : to - (to - k) ≡ k = omega (arith, lt) in subst (λ j. AlikeAt j × ListedAt low j) e (both_from (to - k) (omega (arith, le, lt)))

      pub alike_before : (k : ℕ) → from ≤ k → k ≤ to → AlikeAt k
      alike_before k le lt = (both_before k le lt).0

      -- each step's record is counted alike
      pub counted_alike : (k : ℕ) → from ≤ k → k < to → (d : ℕ) → CountsAlike records faults (step_of k) (sens (k + 1) d).records (sens (k + period + 1) (later d)).records
      counted_alike k le lt = counted_here k le lt (both_before (k + 1) (omega (arith, le)) (omega (arith, lt))).1

      none_front : (k : ℕ) → from ≤ k → k < to → 0 < period → NonePlaced program (k + 1) → NonePlaced program k
      none_front k le lt some none d =
          let within = repeat.within in
          let past : k + 1 + (period - 1) ≡ k + period = omega (arith, some) in
          let there : NonePlaced program (k + period) = subst (NonePlaced program) past (none_placed_later (period - 1) (k + 1) (omega (arith, lt, within, some)) none) in
          let next : k + 1 + period ≡ k + period + 1 = omega arith in
          let quiet : anticommute (collapse_word program.qubits (step_of k)) (sens (k + 1) d).word ≡ false =
          ap₂ anticommute (sym (collapse_word_moved program.qubits records faults (step_of k)) ∙ ap (collapse_word program.qubits) (sym (moved_at k le lt)))
          (alike_before (k + 1) (omega (arith, le)) (omega (arith, lt)) d ∙ ap (λ j. (sens j (later d)).word) next)
          ∙ (none_placed_front (k + period) (omega (arith, lt, within)) there).1 (later d) in
          ap (latest_place program.qubits (target_at program d)) (front k (omega (arith, lt, within)))
          ∙ ap₂ (later_or_here (step_of k)) (none d) quiet

      none_from : (i : ℕ) → from + i ≤ to → 0 < period → NonePlaced program to → NonePlaced program (to - i)
      none_from zero le some none = let e : to ≡ to - 0 = omega arith in subst (NonePlaced program) e none
      none_from (suc i) le some none =
          let e : to - suc i + 1 ≡ to - i = omega (arith, le) in
          none_front (to - suc i) (omega (arith, le)) (omega (arith, le)) some (subst (NonePlaced program) (sym e) (none_from i (omega (arith, le)) some none))

      pub none_before : (k : ℕ) → from ≤ k → k ≤ to → 0 < period → NonePlaced program to → NonePlaced program k
      none_before k le lt some none = let e : to - (to - k) ≡ k = omega (arith, lt) in subst (NonePlaced program) e (none_from (to - k) (omega (arith, le, lt)) some none)
