-- Turns of a block that repeat: how many records they make, and the lists of records that feedback there doesn't change.
use Rattle.std.proofs.Common.{◌≡◌, ℕ, zero, suc, ◌+◌, ◌-◌, ◌*◌, ◌<◌, ◌≤◌, List, ◌∷◌, length, drop, None, Some, inl, inr, refl, ap, subst, ◌∙◌, arith}
use Rattle.std.specs.Prelude.{option_map, slice_get}
use Rattle.std.proofs.lemmas.Bool.{cases_lt}
use Rattle.std.proofs.lemmas.Option.{slice_get-get_or}
use Rattle.pauli_word.specs.declared.letter.Letter.{Letter}
use Rattle.step_model.specs.Listing.{Listing, ListedStep, One, Two, Collapse, Fault, Feedback, step_records}
use Rattle.circuit_walk.specs.Turns.{AreFedFrom, Repeat, moved_step}
use Rattle.record_targets.specs.ListingSets.{listing_set}
use Rattle.backward.specs.private.Passes.{records_before}
use Rattle.backward.proofs.PassRecords.{records_before-more}
use Rattle.backward.proofs.PassSets.{listing_set-other}
use Rattle.backward.proofs.TurnLemmas.{front, moved_at, step_of}

-- ---- a step, and lists of records that it doesn't feed forward
unfed_step : (program : Listing) (step : ListedStep) (steps : List ListedStep) (r low : ℕ) → ((q : ℕ) (w : List Letter) → step ≡ Feedback w q → low ≤ q) → r < low → listing_set program (step ∷ steps) r ≡ listing_set program steps r
unfed_step program (One gate q) steps r low fed lt = refl
unfed_step program (Two gate a b) steps r low fed lt = refl
unfed_step program (Collapse c recorded) steps r low fed lt = refl
unfed_step program (Fault f) steps r low fed lt = refl
unfed_step program (Feedback w q) steps r low fed lt = let le = fed q w refl in listing_set-other program w q r steps (λ same. omega (arith, same, lt, le))

made_moved : (records faults : ℕ) (step : ListedStep) → length (step_records (moved_step records faults step)) ≡ length (step_records step)
made_moved records faults (One gate q) = refl
made_moved records faults (Two gate a b) = refl
made_moved records faults (Collapse c None) = refl
made_moved records faults (Collapse c (Some r)) = refl
made_moved records faults (Fault f) = refl
made_moved records faults (Feedback w r) = refl

module _ (program : Listing) where
  list_stays : (low from to k r : ℕ) → AreFedFrom program.steps low from to → to ≤ length program.steps → from ≤ k → k < to → r < low → listing_set program (drop k program.steps) r ≡ listing_set program (drop (k + 1) program.steps) r
  list_stays low from to k r fed within le lt less =
      ap (λ (steps : List ListedStep). listing_set program steps r) (front program k (omega (arith, lt, within)))
      ∙ unfed_step program (step_of program k) (drop (k + 1) program.steps) r low (λ q w is. fed k q w le lt (slice_get-get_or program.steps k (Fault 0) (omega (arith, lt, within)) ∙ ap Some is)) less

  lists_stay_for : (i low from to k r : ℕ) → AreFedFrom program.steps low from to → to ≤ length program.steps → from ≤ k → k + i ≤ to → r < low → listing_set program (drop k program.steps) r ≡ listing_set program (drop (k + i) program.steps) r
  lists_stay_for zero low from to k r fed within le lt less = let e : k ≡ k + 0 = omega arith in ap (λ j. listing_set program (drop j program.steps) r) e
  lists_stay_for (suc i) low from to k r fed within le lt less =
      let e : k + 1 + i ≡ k + suc i = omega arith in
      list_stays low from to k r fed within le (omega (arith, lt)) less
      ∙ (lists_stay_for i low from to (k + 1) r fed within (omega (arith, le)) (omega (arith, lt)) less ∙ ap (λ j. listing_set program (drop j program.steps) r) e)

  -- the list of a record below those that feedback between two places depends on
  pub lists_stay : (low from to r : ℕ) → AreFedFrom program.steps low from to → to ≤ length program.steps → from ≤ to → r < low → listing_set program (drop from program.steps) r ≡ listing_set program (drop to program.steps) r
  lists_stay low from to r fed within le less =
      let e : from + (to - from) ≡ to = omega (arith, le) in
      lists_stay_for (to - from) low from to from r fed within (omega arith) (omega (arith, le)) less ∙ ap (λ j. listing_set program (drop j program.steps) r) e

  -- ---- steps that repeat
  module _ (from to period records faults : ℕ) (repeat : Repeat program.steps from to period records faults) (turn : records_before program (to + period) ≡ records_before program to + records) where
    apart_for : (i : ℕ) → from + i ≤ to → records_before program (to - i + period) ≡ records_before program (to - i) + records
    apart_for zero le = let e : to ≡ to - 0 = omega arith in subst (λ k. records_before program (k + period) ≡ records_before program k + records) e turn
    apart_for (suc i) le =
        let within = repeat.within in
        let k = to - suc i in
        let e : to - i ≡ k + 1 = omega (arith, le) in
        let next : k + 1 + period ≡ k + period + 1 = omega arith in
        let later = subst (λ j. records_before program (j + period) ≡ records_before program j + records) e (apart_for i (omega (arith, le))) in
        let same = ap (records_before program) next in
        let here = records_before-more program k (step_of program k) (front program k (omega (arith, le, within))) in
        let there = records_before-more program (k + period) (step_of program (k + period)) (front program (k + period) (omega (arith, le, within))) in
        let made = ap (λ step. length (step_records step)) (moved_at program from to period records faults repeat (λ d. d) k (omega (arith, le)) (omega (arith, le))) ∙ made_moved records faults (step_of program k) in
        omega (arith, later, same, here, there, made)

    apart : (k : ℕ) → from ≤ k → k ≤ to → records_before program (k + period) ≡ records_before program k + records
    apart k le lt = let e : to - (to - k) ≡ k = omega (arith, lt) in subst (λ j. records_before program (j + period) ≡ records_before program j + records) e (apart_for (to - k) (omega (arith, le, lt)))

    records_turned : (i : ℕ) → from + i * period ≤ to → records_before program (to - i * period) + i * records ≡ records_before program to
    records_turned zero le = let e : to - 0 * period ≡ to = omega arith in let same = ap (records_before program) e in omega (arith, same)
    records_turned (suc i) le =
        let more : suc i * period ≡ i * period + period = omega arith in
        let sum : suc i * records ≡ i * records + records = omega arith in
        let e : to - suc i * period + period ≡ to - i * period = omega (arith, le, more) in
        let same = ap (records_before program) e in
        let one = apart (to - suc i * period) (omega (arith, le)) (omega arith) in
        let rest = records_turned i (omega (arith, le, more)) in
        omega (arith, same, one, rest, sum)

    fed_turned : (low : ℕ) → AreFedFrom program.steps low to (to + period) → (i : ℕ) → from + i * period ≤ to → AreFedFrom program.steps (low - i * records) (to - i * period) (to + period)
    fed_turned low fed zero le k r w least lt is = let none : 0 * period ≡ 0 = omega arith in let one = fed k r w (omega (arith, least, none)) lt is in omega (arith, one)
    fed_turned low fed (suc i) le k r w least lt is =
        let more : suc i * period ≡ i * period + period = omega arith in
        let sum : suc i * records ≡ i * records + records = omega arith in
        let rest = fed_turned low fed i (omega (arith, le, more)) in
        elim (cases_lt k (to - i * period)) as (λ _. low - suc i * records ≤ r) [
          | inl before ↦ (
              let there : slice_get program.steps (k + period) ≡ Some (Feedback w (r + records)) =
              repeat.each k (omega (arith, least, le)) (omega (arith, before)) ∙ ap (option_map (moved_step records faults)) is in
              let one = rest (k + period) (r + records) w (omega (arith, least, more, le)) (omega (arith, before)) there in
              omega (arith, one, sum))
          | inr past ↦ let one = rest k r w past lt is in omega (arith, one, sum)
        ]

    -- feedback in turns depends on records that they make, where it does so in the turn behind them
    pub own_turned : AreFedFrom program.steps (records_before program to) to (to + period) → (i : ℕ) → from + i * period ≡ to → AreFedFrom program.steps (records_before program from) from to
    own_turned fed i is k r w le lt at =
        let start : to - i * period ≡ from = omega (arith, is) in
        let same = ap (records_before program) start in
        let made = records_turned i (omega (arith, is)) in
        let one = fed_turned (records_before program to) fed i (omega (arith, is)) k r w (omega (arith, le, start)) (omega (arith, lt)) at in
        omega (arith, one, made, same)

    -- and there is none where there is none in that turn
    pub none_turned : ((low : ℕ) → AreFedFrom program.steps low to (to + period)) → (i : ℕ) → from + i * period ≡ to → (low : ℕ) → AreFedFrom program.steps low from to
    none_turned none i is low k r w le lt at =
        let start : to - i * period ≡ from = omega (arith, is) in
        let one = fed_turned (low + i * records) (none (low + i * records)) i (omega (arith, is)) k r w (omega (arith, le, start)) (omega (arith, lt)) at in
        omega (arith, one)
