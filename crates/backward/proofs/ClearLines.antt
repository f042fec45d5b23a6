-- Lines that have none of the first targets that stay: nor do their faults hit one.
use Rattle.std.proofs.Common.{◌≡◌, ℕ, zero, suc, ◌+◌, ◌-◌, ◌<◌, ◌≤◌, Bool, true, false, if◌then◌else◌, List, [], ◌∷◌, ◌++◌, length, drop, get_or, inl, inr, refl, ap, subst, sym, ◌∙◌, arith}
use Rattle.std.specs.Prelude.{All, filter}
use Rattle.std.specs.List.{flat_map, range_with_len}
use Rattle.std.proofs.Math.Nat.{min-le_right}
use Rattle.std.proofs.lemmas.Bool.{cases_lt}
use Rattle.std.proofs.lemmas.List.Elements.{All-cons, All-head, All-nil, All-tail}
use Rattle.std.proofs.lemmas.List.FromFn.{get_or-range_with_len, length-range_with_len}
use Rattle.step_model.specs.ErrorModels.{ErrorLine}
use Rattle.step_model.specs.Hits.{hits_at}
use Rattle.step_model.specs.Listing.{Listing, ListedStep, fault_at}
use Rattle.step_model.specs.Targets.{targets_of}
use Rattle.step_model.specs.WellFormed.{step_faults}
use Rattle.record_targets.specs.ListingSets.{sensitivity_before}
use Rattle.backward.specs.declared.moved.Shift.{Shift}
use Rattle.backward.specs.private.MovedTargets.{IsClear, IsShiftOf, is_within, window_end}
use Rattle.backward.specs.private.Stretches.{first_lines, hit_at, line_at, line_for, lines_at, lines_between}
use Rattle.backward.specs.private.TurnLines.{AreClear}
use Rattle.backward.proofs.GrownLists.{in_high}
use Rattle.backward.proofs.LinesTurned.{IsClearAt}
use Rattle.backward.proofs.TurnLemmas.{front, step_of}

-- ---- parts of lists
all_front : {X : Type 0} (P : X → Type 0) (xs ys : List X) → All P (xs ++ ys) → All P xs
all_front P [] ys all = All-nil P
all_front P (x ∷ xs) ys all = All-cons P x xs (All-head P x (xs ++ ys) all) (all_front P xs ys (All-tail P x (xs ++ ys) all))

all_back : {X : Type 0} (P : X → Type 0) (xs ys : List X) → All P (xs ++ ys) → All P ys
all_back P [] ys all = all
all_back P (x ∷ xs) ys all = all_back P xs ys (All-tail P x (xs ++ ys) all)

all_at : {X Y : Type 0} (P : Y → Type 0) (g : X → List Y) (xs : List X) (i : ℕ) (d : X) → i < length xs → All P (flat_map g xs) → All P (g (get_or xs i d))
all_at P g [] i d lt all = absurd (omega (arith, lt))
all_at P g (x ∷ xs) zero d lt all = all_front P (g x) (flat_map g xs) all
all_at P g (x ∷ xs) (suc i) d lt all = all_at P g xs i d (omega (arith, lt)) (all_back P (g x) (flat_map g xs) all)

left_out : (P : ℕ → Type 0) (x : ℕ) (xs : List ℕ) (b : Bool) → All P (if b then x ∷ xs else xs) → All P xs
left_out P x xs true all = All-tail P x xs all
left_out P x xs false all = all

-- what holds of all of a range that pass a test
passing : (test : ℕ → Bool) (P : ℕ → Type 0) (k n w : ℕ) → All P (filter test (range_with_len k n)) → k ≤ w → w < k + n → test w ≡ true → P w
passing test P k zero w all le lt e = absurd (omega (arith, le, lt))
passing test P k (suc n) w all le lt e =
    let rest : List ℕ = filter test (range_with_len (k + 1) n) in
    elim (cases_lt k w) as (λ _. P w) [
      | inl past ↦ passing test P (k + 1) n w (left_out P k rest (test k) all) (omega (arith, past)) (omega (arith, lt)) e
      | inr here ↦ (
          let same : w ≡ k = omega (arith, le, here) in
          subst P (sym same) (All-head P k rest (subst (λ b. All P (if b then k ∷ rest else rest)) (ap test (sym same) ∙ e) all)))
    ]

-- ---- lines
clear_targets : (s : Shift) (text ts : List ℕ) → AreClear s (line_for text ts) → IsClear s ts
clear_targets s text [] clear = All-nil (λ t. is_within s.staying (window_end s) t ≡ false)
clear_targets s text (t ∷ ts) clear = All-head (λ (line : ErrorLine). IsClear s line.targets) _ [] clear

module _ (program : Listing) (s : Shift) (shift : IsShiftOf (length program.detectors) (length (targets_of program)) s) where
  clear_hits : (step : ListedStep) (steps : List ListedStep) (f w : ℕ) → AreClear s (line_at program step steps f) → is_within s.staying (window_end s) w ≡ true → hits_at program f step (sensitivity_before program steps w) ≡ false
  clear_hits step steps f w clear inside = by_test (hits_at program f step (sensitivity_before program steps w)) refl
    where
      test : ℕ → Bool
      test d = hits_at program f step (sensitivity_before program steps d)

      below : w < length (targets_of program)
      below =
          let lt = in_high s.staying (window_end s) w inside in
          let top = min-le_right (s.staying + s.by) s.detectors in
          let few = shift.few in
          let all = shift.targets_is in
          omega (arith, lt, top, few, all)

      by_test : (b : Bool) → hits_at program f step (sensitivity_before program steps w) ≡ b → hits_at program f step (sensitivity_before program steps w) ≡ false
      by_test false e = e
      by_test true e =
          let out : is_within s.staying (window_end s) w ≡ false =
          passing (λ d. hits_at program f step (sensitivity_before program steps d)) (λ t. is_within s.staying (window_end s) t ≡ false) 0 (length (targets_of program)) w
          (clear_targets s (fault_at program f).text (hit_at program step steps f) clear) (omega arith) (omega (arith, below)) e in
          let none : true ≡ false = sym inside ∙ out in
          absurd cc

  pub clear_between : (from to k : ℕ) → to ≤ length program.steps → AreClear s (lines_between program from to) → from ≤ k → k < to → IsClearAt program s k
  clear_between from to k within clear le lt i d less w inside =
      let P : ErrorLine → Type 0 = λ line. IsClear s line.targets in
      let range : List ℕ = range_with_len from (to - from) in
      let count = length-range_with_len from (to - from) in
      let there : get_or range (k - from) 0 ≡ k = get_or-range_with_len from (to - from) (k - from) 0 (omega (arith, le, lt)) ∙ omega (arith, le) in
      let at : All P (lines_at program k) = subst (λ j. All P (lines_at program j)) there (all_at P (lines_at program) range (k - from) 0 (omega (arith, le, lt, count)) clear) in
      let lines : All P (flat_map (line_at program (step_of program k) (drop (k + 1) program.steps)) (step_faults (step_of program k))) =
      subst (λ steps. All P (first_lines program steps)) (front program k (omega (arith, lt, within))) at in
      clear_hits (step_of program k) (drop (k + 1) program.steps) (get_or (step_faults (step_of program k)) i d) w (all_at P (line_at program (step_of program k) (drop (k + 1) program.steps)) (step_faults (step_of program k)) i d less lines) inside
