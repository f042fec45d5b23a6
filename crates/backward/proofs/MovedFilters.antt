-- Lists of the targets that pass a test, moved to detectors that are some number earlier.
use Rattle.std.proofs.Common.{◌≡◌, ℕ, zero, suc, ◌+◌, ◌-◌, ◌<◌, ◌≤◌, nat_lt, Bool, true, false, cond, List, [], ◌∷◌, refl, ap, ap₂, sym, inl, inr, ◌∙◌, arith}
use Rattle.std.specs.Prelude.{filter, if◌then◌else◌}
use Rattle.std.specs.List.{range_with_len}
use Rattle.std.proofs.lemmas.Bool.{cases_lt, le-ltb, lt-ltb, ltb-false, ltb-true}
use Rattle.backward.specs.declared.moved.Shift.{Shift}
use Rattle.backward.specs.private.MovedTargets.{is_within, later_target, moved_list, window_end}
use Rattle.backward.proofs.GrownLists.{is_in}
use Rattle.std.proofs.Math.Nat.{le-min}

-- detectors that all move
abbrev pub plain : ℕ → ℕ → ℕ → Shift
plain detectors targets by = record { by = by; staying = detectors; detectors = detectors; targets = targets }

-- ---- the first target of a list, where it goes away, where it is moved and where it stays
first_by : (detectors by t : ℕ) (ts : List ℕ) (b c : Bool) → nat_lt t detectors ≡ b → nat_lt t by ≡ c
    → moved_list detectors by (t ∷ ts) ≡ (if b then (if c then moved_list detectors by ts else (t - by) ∷ moved_list detectors by ts) else t ∷ moved_list detectors by ts)
first_by detectors by t ts b c p q =
    ap₂ (λ b c. if b then (if c then moved_list detectors by ts else (t - by) ∷ moved_list detectors by ts) else t ∷ moved_list detectors by ts) p q

first_gone : (detectors by t : ℕ) (ts : List ℕ) (b : Bool) → t < detectors → t < by → moved_list detectors by (cond b (t ∷ ts) ts) ≡ moved_list detectors by ts
first_gone detectors by t ts true here gone = first_by detectors by t ts true true (lt-ltb t detectors here) (lt-ltb t by gone)
first_gone detectors by t ts false here gone = refl

first_moved : (detectors by t : ℕ) (ts : List ℕ) (b : Bool) → t < detectors → by ≤ t
    → moved_list detectors by (cond b (t ∷ ts) ts) ≡ cond b ((t - by) ∷ moved_list detectors by ts) (moved_list detectors by ts)
first_moved detectors by t ts true here stays = first_by detectors by t ts true false (lt-ltb t detectors here) (le-ltb t by stays)
first_moved detectors by t ts false here stays = refl

first_stays : (detectors by t : ℕ) (ts : List ℕ) (b : Bool) → detectors ≤ t → moved_list detectors by (cond b (t ∷ ts) ts) ≡ cond b (t ∷ moved_list detectors by ts) (moved_list detectors by ts)
first_stays detectors by t ts true here = first_by detectors by t ts false (nat_lt t by) (le-ltb t detectors here) refl
first_stays detectors by t ts false here = refl

-- ---- the later targets of a range that pass a test, from its end on
-- whether the later one passes
abbrev later_test : (detectors targets by : ℕ) (test : ℕ → Bool) → ℕ → Bool
later_test detectors targets by test d = test (later_target (plain detectors targets by) d)

module _ (detectors targets by : ℕ) (test : ℕ → Bool) (none : test targets ≡ false) where
  later_by : (d : ℕ) (b c : Bool) → nat_lt d detectors ≡ b → nat_lt (d + by) detectors ≡ c → later_target (plain detectors targets by) d ≡ (if b then (if c then d + by else targets) else d)
  later_by d b c p q = ap₂ (λ b c. if b then (if c then d + by else targets) else d) p q

  -- observables stay
  later-observables : (k n : ℕ) → detectors ≤ k → filter (later_test detectors targets by test) (range_with_len k n) ≡ moved_list detectors by (filter test (range_with_len k n))
  later-observables k zero here = refl
  later-observables k (suc n) here =
      let rest : List ℕ = filter test (range_with_len (k + 1) n) in
      ap₂ (λ b ts. cond b (k ∷ ts) ts) (ap test (later_by k false (nat_lt (k + by) detectors) (le-ltb k detectors here) refl)) (later-observables (k + 1) n (omega (arith, here)))
      ∙ sym (first_stays detectors by k rest (test k) here)

  -- the last detectors have no later one
  later-last : (k c n : ℕ) → k + c ≡ detectors → detectors ≤ k + by → filter (later_test detectors targets by test) (range_with_len k (c + n)) ≡ moved_list detectors by (filter test (range_with_len detectors n))
  later-last k zero n sum last =
      let here : k ≡ detectors = omega (arith, sum) in
      let count : 0 + n ≡ n = omega arith in
      ap₂ (λ k n. filter (later_test detectors targets by test) (range_with_len k n)) here count ∙ later-observables detectors n (omega arith)
  later-last k (suc c) n sum last =
      let count : suc c + n ≡ suc (c + n) = omega arith in
      let low : k < detectors = omega (arith, sum) in
      ap (λ n. filter (later_test detectors targets by test) (range_with_len k n)) count
      ∙ ap₂ (λ b ts. cond b (k ∷ ts) ts) (ap test (later_by k true false (lt-ltb k detectors low) (le-ltb (k + by) detectors last)) ∙ none) (later-last (k + 1) c n (omega (arith, sum)) (omega (arith, last)))

  -- each detector before them has one
  later-first : (k c n : ℕ) → k + c + by ≡ detectors → filter (later_test detectors targets by test) (range_with_len k (c + (by + n))) ≡ moved_list detectors by (filter test (range_with_len (k + by) (c + n)))
  later-first k zero n sum =
      let counts : 0 + (by + n) ≡ by + n = omega arith in
      let count : n ≡ 0 + n = omega arith in
      let from : detectors ≡ k + by = omega (arith, sum) in
      ap (λ n. filter (later_test detectors targets by test) (range_with_len k n)) counts
      ∙ (later-last k by n (sym from) (omega (arith, from)) ∙ ap₂ (λ k n. moved_list detectors by (filter test (range_with_len k n))) from count)
  later-first k (suc c) n sum =
      let counts : suc c + (by + n) ≡ suc (c + (by + n)) = omega arith in
      let count : suc (c + n) ≡ suc c + n = omega arith in
      let low : k < detectors = omega (arith, sum) in
      let high : k + by < detectors = omega (arith, sum) in
      let next : (k + 1) + by ≡ (k + by) + 1 = omega arith in
      let back : k ≡ (k + by) - by = omega arith in
      let rest : List ℕ = moved_list detectors by (filter test (range_with_len ((k + by) + 1) (c + n))) in
      ap (λ n. filter (later_test detectors targets by test) (range_with_len k n)) counts
      ∙ (ap₂ (λ b ts. cond b (k ∷ ts) ts)
      (ap test (later_by k true true (lt-ltb k detectors low) (lt-ltb (k + by) detectors high)))
      (later-first (k + 1) c n (omega (arith, sum)) ∙ ap (λ j. moved_list detectors by (filter test (range_with_len j (c + n)))) next)
      ∙ (ap (λ j. cond (test (k + by)) (j ∷ rest) rest) back
      ∙ (sym (first_moved detectors by (k + by) (filter test (range_with_len ((k + by) + 1) (c + n))) (test (k + by)) high (omega arith))
      ∙ ap (λ n. moved_list detectors by (filter test (range_with_len (k + by) n))) count)))

  -- the first detectors go away
  gone-first : (k c n : ℕ) → k + c ≤ by → k + c ≤ detectors → moved_list detectors by (filter test (range_with_len k (c + n))) ≡ moved_list detectors by (filter test (range_with_len (k + c) n))
  gone-first k zero n gone here =
      let from : k ≡ k + 0 = omega arith in
      let count : 0 + n ≡ n = omega arith in
      ap₂ (λ k n. moved_list detectors by (filter test (range_with_len k n))) from count
  gone-first k (suc c) n gone here =
      let count : suc c + n ≡ suc (c + n) = omega arith in
      let next : (k + 1) + c ≡ k + suc c = omega arith in
      ap (λ n. moved_list detectors by (filter test (range_with_len k n))) count
      ∙ (first_gone detectors by k (filter test (range_with_len (k + 1) (c + n))) (test k) (omega (arith, here)) (omega (arith, gone))
      ∙ (gone-first (k + 1) c n (omega (arith, gone)) (omega (arith, here)) ∙ ap (λ k. moved_list detectors by (filter test (range_with_len k n))) next))

-- the targets whose later ones pass a test are those that pass it, moved to be as much earlier
pub filter-later : (detectors targets by : ℕ) (test : ℕ → Bool) → detectors ≤ targets → test targets ≡ false
    → filter (λ d. test (later_target (plain detectors targets by) d)) (range_with_len 0 targets) ≡ moved_list detectors by (filter test (range_with_len 0 targets))
filter-later detectors targets by test few none =
    let rest : ℕ = targets - detectors in
    elim (cases_lt detectors by) [
      | inl past ↦
          let all : targets ≡ detectors + rest = omega (arith, few) in
          let none_before : 0 + detectors ≡ detectors = omega arith in
          ap (λ n. filter (later_test detectors targets by test) (range_with_len 0 n)) all
          ∙ (later-last detectors targets by test none 0 detectors rest none_before (omega (arith, past))
          ∙ (ap (λ k. moved_list detectors by (filter test (range_with_len k rest))) (sym none_before)
          ∙ (sym (gone-first detectors targets by test none 0 detectors rest (omega (arith, past)) (omega arith)) ∙ ap (λ n. moved_list detectors by (filter test (range_with_len 0 n))) (sym all))))
      | inr within ↦
          let later : targets ≡ (detectors - by) + (by + rest) = omega (arith, few, within) in
          let first : targets ≡ by + ((detectors - by) + rest) = omega (arith, few, within) in
          ap (λ n. filter (later_test detectors targets by test) (range_with_len 0 n)) later
          ∙ (later-first detectors targets by test none 0 (detectors - by) rest (omega (arith, within))
          ∙ (sym (gone-first detectors targets by test none 0 by ((detectors - by) + rest) (omega arith) (omega (arith, within))) ∙ ap (λ n. moved_list detectors by (filter test (range_with_len 0 n))) (sym first)))
    ]

-- where none of the first that stay passes, nor a number that no target has
pub filter_alike : (p q : ℕ → Bool) → ((d : ℕ) → p d ≡ q d) → (xs : List ℕ) → filter p xs ≡ filter q xs
filter_alike p q same [] = refl
filter_alike p q same (x ∷ xs) = ap₂ (λ (b : Bool) ys. if b then x ∷ ys else ys) (same x) (filter_alike p q same xs)

pub filter-clear : (s : Shift) (test : ℕ → Bool) → s.staying ≤ s.detectors → s.detectors ≤ s.targets → test s.targets ≡ false → ((w : ℕ) → is_within s.staying (window_end s) w ≡ true → test w ≡ false)
    → filter (λ d. test (later_target s d)) (range_with_len 0 s.targets) ≡ moved_list s.staying s.by (filter test (range_with_len 0 s.targets))
filter-clear s test within few none clear =
    filter_alike (λ d. test (later_target s d)) (λ d. test (later_target (plain s.staying s.targets s.by) d)) (λ d. same d (nat_lt d s.staying) (nat_lt (d + s.by) s.detectors) (nat_lt (d + s.by) s.staying) refl refl refl) (range_with_len 0 s.targets)
    ∙ filter-later s.staying s.targets s.by test (omega (arith, within, few)) none
  where
    same : (d : ℕ) (a b c : Bool) → nat_lt d s.staying ≡ a → nat_lt (d + s.by) s.detectors ≡ b → nat_lt (d + s.by) s.staying ≡ c → test (later_target s d) ≡ test (later_target (plain s.staying s.targets s.by) d)
    same d a b c p q r =
        ap test (ap₂ (λ a b. if a then (if b then d + s.by else s.targets) else d) p q)
        ∙ (chosen d a b c p q r ∙ sym (ap test (ap₂ (λ a c. if a then (if c then d + s.by else s.targets) else d) p r)))
      where
        chosen : (d : ℕ) (a b c : Bool) → nat_lt d s.staying ≡ a → nat_lt (d + s.by) s.detectors ≡ b → nat_lt (d + s.by) s.staying ≡ c
            → test (if a then (if b then d + s.by else s.targets) else d) ≡ test (if a then (if c then d + s.by else s.targets) else d)
        chosen d false b c p q r = refl
        chosen d true true true p q r = refl
        chosen d true false false p q r = refl
        chosen d true true false p q r =
            let lt = ltb-true d s.staying p in
            let le = ltb-false (d + s.by) s.staying r in
            let there = ltb-true (d + s.by) s.detectors q in
            let inside : d + s.by < window_end s = le-min (omega (arith, lt)) there in
            clear (d + s.by) (is_in s.staying (window_end s) (d + s.by) le inside) ∙ sym none
        chosen d true false true p q r =
            let past = ltb-false (d + s.by) s.detectors q in
            let lt = ltb-true (d + s.by) s.staying r in
            absurd (omega (arith, past, lt, within))
