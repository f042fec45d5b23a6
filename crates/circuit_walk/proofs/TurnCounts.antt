-- Steps that come again a period later add as much to the counts in each period.
use Rattle.std.proofs.Common.{◌≡◌, ℕ, zero, suc, ◌+◌, ◌-◌, ◌*◌, ◌<◌, ◌≤◌, if◌then◌else◌, List, length, Option, None, Some, option_map, get_or, refl, ap, subst, ◌∙◌, arith}
use Rattle.std.specs.Prelude.{slice_get, take}
use Rattle.std.proofs.lemmas.Option.{slice_get-get_or}
use Rattle.std.specs.Option.{option_to_list}
use Rattle.step_model.specs.Listing.{ListedStep, One, Two, Collapse, Fault, Feedback, is_collapse, step_records}
use Rattle.step_model.specs.WellFormed.{collapse_count, faults_named, records_made, step_faults}
use Rattle.circuit_walk.specs.Turns.{moved_step}
use Rattle.circuit_walk.specs.private.Turns.{GrowsBy, count_back}
use Rattle.circuit_walk.proofs.PlaceCounts.{taken}

-- each of the steps from one place to another comes again a period later, moved on
abbrev pub ComeAgain : List ListedStep → ℕ → ℕ → ℕ → ℕ → ℕ → Type 0
ComeAgain steps records faults period from to =
    (k : ℕ) → from ≤ k → k < to → slice_get steps (k + period) ≡ option_map (moved_step records faults) (slice_get steps k)

-- a step that is there
pub step_there : (steps : List ListedStep) (k : ℕ) → k < length steps → (s : ListedStep) × (slice_get steps k ≡ Some s)
step_there steps k lt = (get_or steps k (Fault 0), slice_get-get_or steps k (Fault 0) lt)

-- a count of the steps before a place, to which each step adds its weight, wherever its numbers are moved
pub record IsCount (steps : List ListedStep) (count : ℕ → ℕ) (weight : ListedStep → ℕ) : Type 0 where
  pub adds : (k : ℕ) (s : ListedStep) → slice_get steps k ≡ Some s → count (k + 1) ≡ count k + weight s
  pub stays : (records faults : ℕ) (s : ListedStep) → weight (moved_step records faults s) ≡ weight s

-- ---- the three counts

records_stay : (records faults : ℕ) (s : ListedStep) → length (step_records (moved_step records faults s)) ≡ length (step_records s)
records_stay records faults (One g q) = refl
records_stay records faults (Two g p q) = refl
records_stay records faults (Collapse m None) = refl
records_stay records faults (Collapse m (Some r)) = refl
records_stay records faults (Fault f) = refl
records_stay records faults (Feedback w r) = refl

collapses_stay : (records faults : ℕ) (s : ListedStep) → ◌≡◌ {A = ℕ} (if is_collapse (moved_step records faults s) then 1 else 0) (if is_collapse s then 1 else 0)
collapses_stay records faults (One g q) = refl
collapses_stay records faults (Two g p q) = refl
collapses_stay records faults (Collapse m r) = refl
collapses_stay records faults (Fault f) = refl
collapses_stay records faults (Feedback w r) = refl

flip_stays : (faults : ℕ) (flip : Option ℕ) → length (option_to_list (option_map (λ f. f + faults) flip)) ≡ length (option_to_list flip)
flip_stays faults None = refl
flip_stays faults (Some f) = refl

faults_stay : (records faults : ℕ) (s : ListedStep) → length (step_faults (moved_step records faults s)) ≡ length (step_faults s)
faults_stay records faults (One g q) = refl
faults_stay records faults (Two g p q) = refl
faults_stay records faults (Collapse m None) = refl
faults_stay records faults (Collapse m (Some r)) = flip_stays faults r.flip
faults_stay records faults (Fault f) = refl
faults_stay records faults (Feedback w r) = refl

pub counts_records : (steps : List ListedStep) → IsCount steps (λ k. length (records_made (take k steps))) (λ s. length (step_records s))
counts_records steps = record { adds = λ k s got. (taken steps k s got).records; stays = records_stay }

pub counts_collapses : (steps : List ListedStep) → IsCount steps (λ k. collapse_count (take k steps)) (λ s. if is_collapse s then 1 else 0)
counts_collapses steps = record { adds = λ k s got. (taken steps k s got).collapses; stays = collapses_stay }

pub counts_faults : (steps : List ListedStep) → IsCount steps (λ k. length (faults_named (take k steps))) (λ s. length (step_faults s))
counts_faults steps = record { adds = λ k s got. (taken steps k s got).faults; stays = faults_stay }

-- ---- over periods

module _ (steps : List ListedStep) (count : ℕ → ℕ) (weight : ListedStep → ℕ) (is : IsCount steps count weight) where
  one_more : (k j : ℕ) (s : ListedStep) → slice_get steps k ≡ Some s → j ≡ k + 1 → count j ≡ count k + weight s
  one_more k j s got e = ap count e ∙ is.adds k s got

  never_falls : (n k j : ℕ) → j ≡ k + n → j ≤ length steps → count k ≤ count j
  never_falls zero k j e le = let same : k ≡ j = omega arith in omega (arith, ap count same)
  never_falls (suc n) k j e le =
      let s = step_there steps (k + n) (omega arith) in
      omega (arith, never_falls n k (k + n) refl (omega arith), one_more (k + n) j s.0 s.1 (omega arith))

  module _ (records faults period k : ℕ) (room : k + period ≤ length steps) where
    -- what a period adds is the same at each place from here back to where the steps come again
    steady : (n j d : ℕ) → j + n ≡ k → ComeAgain steps records faults period j k → count (k + period) ≡ count k + d → count (j + period) ≡ count j + d
    steady zero j d e again h = let here : k ≡ j = omega arith in subst (λ i. count (i + period) ≡ count i + d) here h
    steady (suc n) j d e again h =
        let s = step_there steps j (omega arith) in
        let later = steady n (j + 1) d (omega arith) (λ i low high. again i (omega arith) high) h in
        let moved = again j (omega arith) (omega arith) ∙ ap (option_map (moved_step records faults)) s.1 in
        omega (
          arith,
          later,
          one_more j (j + 1) s.0 s.1 refl,
          one_more (j + period) (j + 1 + period) (moved_step records faults s.0) moved (omega arith),
          is.stays records faults s.0,
        )

    -- so many periods add so many times as much
    total : (n j d : ℕ) → k ≡ j + n * period → ComeAgain steps records faults period j k → count (k + period) ≡ count k + d → count k ≡ count j + n * d
    total zero j d e again h = let here : k ≡ j = omega arith in omega (arith, ap count here)
    total (suc n) j d e again h =
        let rest = total n (j + period) d (omega arith) (λ i low high. again i (omega arith) high) h in
        omega (arith, rest, steady (suc n * period) j d (omega arith) again h)

    rises : count k ≤ count (k + period)
    rises = never_falls period k (k + period) refl room

    pub record GoesBackBy (n j : ℕ) : Type 0 where
      pub grows : GrowsBy (count k) (count (k + period)) n
      pub back : count_back (count k) (count (k + period)) n ≡ count j

    pub goes_back_by : (n j : ℕ) → k ≡ j + n * period → ComeAgain steps records faults period j k → GoesBackBy n j
    goes_back_by n j e again =
        let d = count (k + period) - count k in
        let all : count k ≡ count j + n * d = total n j d e again (omega (arith, rises)) in
        record { grows = record { grows = rises; enough = omega (arith, all) }; back = omega (arith, all) }
