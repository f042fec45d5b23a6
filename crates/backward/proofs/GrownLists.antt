-- Lists of targets some turns earlier: what they name. A test of a list is put together from those of its targets: whether a
-- number is listed an odd number of times, or at all.
use Rattle.std.proofs.Common.{◌≡◌, ℕ, zero, suc, ◌+◌, ◌-◌, ◌*◌, ◌<◌, ◌≤◌, nat_lt, Bool, true, false, ◌&&◌, List, [], ◌∷◌, ◌++◌, eqb, inl, inr, refl, ap, ap₂, subst, sym, ◌∙◌, arith}
use Rattle.std.specs.Prelude.{All, not, if◌then◌else◌}
use Rattle.std.proofs.Math.Nat.{min-le_left, min-le_right, le-min}
use Rattle.std.proofs.lemmas.Bool.{cases_lt, le-ltb, lt-ltb, ltb-false, ltb-true, ne_eqb}
use Rattle.std.proofs.lemmas.Bool.Decides.{nat_tests}
use Rattle.std.proofs.lemmas.List.Elements.{All-append, All-cons, All-head, All-map, All-nil, All-tail, All-weaker}
use Rattle.backward.specs.declared.moved.Shift.{Shift}
use Rattle.backward.specs.private.MovedTargets.{earlier_list, grown_list, grown_lists, is_within, later_target, later_turns, picked, steps_before, window_end}

-- ---- numbers between two
both_false : (b : Bool) → (b && false) ≡ false
both_false true = refl
both_false false = refl

turned : (b : Bool) → not b ≡ true → b ≡ false
turned true e = absurd cc
turned false e = refl

pub is_in : (low high t : ℕ) → low ≤ t → t < high → is_within low high t ≡ true
is_in low high t le lt = ap₂ (λ a b. not a && b) (le-ltb t low le) (lt-ltb t high lt)

pub is_low : (low high t : ℕ) → t < low → is_within low high t ≡ false
is_low low high t lt = ap (λ a. not a && nat_lt t high) (lt-ltb t low lt)

pub is_high : (low high t : ℕ) → high ≤ t → is_within low high t ≡ false
is_high low high t le = ap (λ b. not (nat_lt t low) && b) (le-ltb t high le) ∙ both_false (not (nat_lt t low))

pub in_low : (low high t : ℕ) → is_within low high t ≡ true → low ≤ t
in_low low high t e = by_test (nat_lt t low) refl
  where
    by_test : (b : Bool) → nat_lt t low ≡ b → low ≤ t
    by_test true p = let none : false ≡ true = sym (ap (λ a. not a && nat_lt t high) p) ∙ e in absurd cc
    by_test false p = ltb-false t low p

pub in_high : (low high t : ℕ) → is_within low high t ≡ true → t < high
in_high low high t e = by_test (nat_lt t high) refl
  where
    by_test : (b : Bool) → nat_lt t high ≡ b → t < high
    by_test true p = ltb-true t high p
    by_test false p = let none : false ≡ true = sym (ap (λ b. not (nat_lt t low) && b) p ∙ both_false (not (nat_lt t low))) ∙ e in absurd cc

eqb-moved : (t by d : ℕ) → by ≤ t → eqb (t - by) d ≡ eqb t (d + by)
eqb-moved t by d le = grind (arith, nat_tests)

eqb-same : (a b : ℕ) → eqb a b ≡ true → a ≡ b
eqb-same a b e = grind (arith, nat_tests)

-- ---- turns later
later_by : (s : Shift) (d : ℕ) (b c : Bool) → nat_lt d s.staying ≡ b → nat_lt (d + s.by) s.detectors ≡ c → later_target s d ≡ (if b then (if c then d + s.by else s.targets) else d)
later_by s d b c p q = ap₂ (λ b c. if b then (if c then d + s.by else s.targets) else d) p q

pub later_stays : (s : Shift) (d : ℕ) → s.staying ≤ d → later_target s d ≡ d
later_stays s d le = later_by s d false (nat_lt (d + s.by) s.detectors) (le-ltb d s.staying le) refl

later_moves : (s : Shift) (d : ℕ) → d < s.staying → d + s.by < s.detectors → later_target s d ≡ d + s.by
later_moves s d lt some = later_by s d true true (lt-ltb d s.staying lt) (lt-ltb (d + s.by) s.detectors some)

later_none : (s : Shift) (d : ℕ) → d < s.staying → s.detectors ≤ d + s.by → later_target s d ≡ s.targets
later_none s d lt none = later_by s d true false (lt-ltb d s.staying lt) (le-ltb (d + s.by) s.detectors none)

module _ (s : Shift) (within : s.staying ≤ s.detectors) (few : s.detectors ≤ s.targets) where
  pub turns_stay : (n d : ℕ) → s.staying ≤ d → later_turns s n d ≡ d
  turns_stay zero d le = refl
  turns_stay (suc n) d le = ap (later_turns s n) (later_stays s d le) ∙ turns_stay n d le

  -- a turn more, before the others or behind them
  turns_more : (n d : ℕ) → later_turns s (suc n) d ≡ later_target s (later_turns s n d)
  turns_more zero d = refl
  turns_more (suc n) d = turns_more n (later_target s d)

  turns_move : (n d : ℕ) → d + n * s.by < s.staying → later_turns s n d ≡ d + n * s.by
  turns_move zero d lt = let e : d ≡ d + 0 * s.by = omega arith in e
  turns_move (suc n) d lt =
      let more : suc n * s.by ≡ n * s.by + s.by = omega arith in
      let e : d + s.by + n * s.by ≡ d + suc n * s.by = omega (arith, more) in
      ap (later_turns s n) (later_moves s d (omega (arith, lt)) (omega (arith, lt, more, within)))
      ∙ (turns_move n (d + s.by) (omega (arith, lt, more)) ∙ e)

  turns_past : (n d : ℕ) → s.staying ≤ d + n * s.by → s.staying ≤ later_turns s n d
  turns_past zero d le = omega (arith, le)
  turns_past (suc n) d le =
      let more : suc n * s.by ≡ n * s.by + s.by = omega arith in
      elim (cases_lt d s.staying) as (λ _. s.staying ≤ later_turns s (suc n) d) [
        | inl lt ↦ elim (cases_lt (d + s.by) s.detectors) as (λ _. s.staying ≤ later_turns s (suc n) d) [
          | inl some ↦ subst (λ e. s.staying ≤ later_turns s n e) (sym (later_moves s d lt some)) (turns_past n (d + s.by) (omega (arith, le, more)))
          | inr none ↦ subst (λ e. s.staying ≤ later_turns s n e) (sym (later_none s d lt none)) (subst (λ e. s.staying ≤ e) (sym (turns_stay n s.targets (omega (arith, within, few)))) (omega (arith, within, few)))
        ]
        | inr past ↦ let e = turns_stay (suc n) d past in omega (arith, e, past)
      ]

  -- ---- tests of lists
  module _ (f : Bool → Bool → Bool) (test : List ℕ → ℕ → Bool) (none : (d : ℕ) → test [] d ≡ false) (some : (t : ℕ) (ts : List ℕ) (d : ℕ) → test (t ∷ ts) d ≡ f (eqb t d) (test ts d))
      (left : (b : Bool) → f false b ≡ b) (right : (b : Bool) → f b false ≡ b) (assoc : (a b c : Bool) → f (f a b) c ≡ f a (f b c)) where
    appended : (xs ys : List ℕ) (d : ℕ) → test (xs ++ ys) d ≡ f (test xs d) (test ys d)
    appended [] ys d = sym (left (test ys d)) ∙ ap (λ b. f b (test ys d)) (sym (none d))
    appended (x ∷ xs) ys d =
        some x (xs ++ ys) d ∙ (ap (f (eqb x d)) (appended xs ys d) ∙ (sym (assoc (eqb x d) (test xs d) (test ys d)) ∙ ap (λ b. f b (test ys d)) (sym (some x xs d))))

    beyond : (m d : ℕ) (ts : List ℕ) → m ≤ d → All (λ t. t < m) ts → test ts d ≡ false
    beyond m d [] le below = none d
    beyond m d (t ∷ ts) le below =
        let lt : t < m = All-head (λ t. t < m) t ts below in
        some t ts d ∙ (ap₂ f (ne_eqb t d (λ e. omega (arith, e, le, lt))) (beyond m d ts le (All-tail (λ t. t < m) t ts below)) ∙ left false)

    kept_there : (q w x : Bool) → (q ≡ true → w ≡ true) → f q (w && x) ≡ (w && f q x)
    kept_there true true x h = refl
    kept_there true false x h = let e = h refl in absurd cc
    kept_there false w x h = left (w && x) ∙ ap (λ b. w && b) (sym (left x))

    gone_there : (q w x : Bool) → (q ≡ true → w ≡ false) → (w && x) ≡ (w && f q x)
    gone_there true true x h = let e = h refl in absurd cc
    gone_there true false x h = refl
    gone_there false w x h = ap (λ b. w && b) (sym (left x))

    picked_test : (low high by d : ℕ) (ts : List ℕ) → by ≤ low → test (picked low high by ts) d ≡ (is_within low high (d + by) && test ts (d + by))
    picked_test low high by d [] le = none d ∙ sym (ap (λ b. is_within low high (d + by) && b) (none (d + by)) ∙ both_false (is_within low high (d + by)))
    picked_test low high by d (t ∷ ts) le = by_test (picked_test low high by d ts le) (is_within low high t) refl
      where
        here : eqb t (d + by) ≡ true → is_within low high (d + by) ≡ is_within low high t
        here e = ap (is_within low high) (sym (eqb-same t (d + by) e))

        by_test : test (picked low high by ts) d ≡ (is_within low high (d + by) && test ts (d + by)) → (b : Bool) → is_within low high t ≡ b
            → test (if b then (t - by) ∷ picked low high by ts else picked low high by ts) d ≡ (is_within low high (d + by) && test (t ∷ ts) (d + by))
        by_test rest true p =
            let above : low ≤ t = in_low low high t p in
            some (t - by) (picked low high by ts) d
            ∙ (ap₂ f (eqb-moved t by d (omega (arith, above, le))) rest
            ∙ (kept_there (eqb t (d + by)) (is_within low high (d + by)) (test ts (d + by)) (λ e. here e ∙ p) ∙ ap (λ b. is_within low high (d + by) && b) (sym (some t ts (d + by)))))
        by_test rest false p =
            rest ∙ (gone_there (eqb t (d + by)) (is_within low high (d + by)) (test ts (d + by)) (λ e. here e ∙ p) ∙ ap (λ b. is_within low high (d + by) && b) (sym (some t ts (d + by))))

    picked_in : (low high by d : ℕ) (ts : List ℕ) → by ≤ low → low ≤ d + by → d + by < high → test (picked low high by ts) d ≡ test ts (d + by)
    picked_in low high by d ts le above below = picked_test low high by d ts le ∙ ap (λ b. b && test ts (d + by)) (is_in low high (d + by) above below)

    picked_low : (low high by d : ℕ) (ts : List ℕ) → by ≤ low → d + by < low → test (picked low high by ts) d ≡ false
    picked_low low high by d ts le below = picked_test low high by d ts le ∙ ap (λ b. b && test ts (d + by)) (is_low low high (d + by) below)

    picked_high : (low high by d : ℕ) (ts : List ℕ) → by ≤ low → high ≤ d + by → test (picked low high by ts) d ≡ false
    picked_high low high by d ts le above = picked_test low high by d ts le ∙ ap (λ b. b && test ts (d + by)) (is_high low high (d + by) above)

    module _ (ts : List ℕ) (below : All (λ t. t < s.targets) ts) where
      window_low : window_end s ≤ s.staying + s.by
      window_low = min-le_left (s.staying + s.by) s.detectors

      window_high : window_end s ≤ s.detectors
      window_high = min-le_right (s.staying + s.by) s.detectors

      in_window : (t : ℕ) → t < s.staying + s.by → t < s.detectors → t < window_end s
      in_window t first second = le-min first second

      -- those that stay
      stays_test : (d : ℕ) → s.staying ≤ d → test (picked s.staying s.targets 0 ts) d ≡ test ts d
      stays_test d le =
          let e : d + 0 ≡ d = omega arith in
          elim (cases_lt d s.targets) as (λ _. test (picked s.staying s.targets 0 ts) d ≡ test ts d) [
            | inl lt ↦ picked_in s.staying s.targets 0 d ts (omega arith) (omega (arith, le)) (omega (arith, lt)) ∙ ap (test ts) e
            | inr past ↦ picked_high s.staying s.targets 0 d ts (omega arith) (omega (arith, past)) ∙ sym (beyond s.targets d ts past below)
          ]

      moves_test : (d : ℕ) → d < s.staying → test (picked s.staying s.targets 0 ts) d ≡ false
      moves_test d lt = picked_low s.staying s.targets 0 d ts (omega arith) (omega (arith, lt))

      -- one turn earlier
      pub earlier_test : (d : ℕ) → test (earlier_list s ts) d ≡ test ts (later_target s d)
      earlier_test d =
          appended (picked s.by (window_end s) s.by ts) (picked s.staying s.targets 0 ts) d
          ∙ elim (cases_lt d s.staying) as (λ _. f (test (picked s.by (window_end s) s.by ts) d) (test (picked s.staying s.targets 0 ts) d) ≡ test ts (later_target s d)) [
            | inl lt ↦ elim (cases_lt (d + s.by) s.detectors) as (λ _. f (test (picked s.by (window_end s) s.by ts) d) (test (picked s.staying s.targets 0 ts) d) ≡ test ts (later_target s d)) [
              | inl there ↦
                  ap₂ f (picked_in s.by (window_end s) s.by d ts (omega arith) (omega arith) (in_window (d + s.by) (omega (arith, lt)) there)) (moves_test d lt)
                  ∙ (right (test ts (d + s.by)) ∙ ap (test ts) (sym (later_moves s d lt there)))
              | inr gone ↦
                  ap₂ f (picked_high s.by (window_end s) s.by d ts (omega arith) (let high = window_high in omega (arith, high, gone))) (moves_test d lt)
                  ∙ (left false ∙ (sym (beyond s.targets s.targets ts (omega arith) below) ∙ ap (test ts) (sym (later_none s d lt gone))))
            ]
            | inr past ↦
                ap₂ f (picked_high s.by (window_end s) s.by d ts (omega arith) (let low = window_low in omega (arith, low, past))) (stays_test d past)
                ∙ (left (test ts d) ∙ ap (test ts) (sym (later_stays s d past)))
          ]

      -- the first that stay, and those before them
      abbrev first : List ℕ
      first = picked s.staying (window_end s) 0 ts

      first_low : (t : ℕ) → t < s.staying → test first t ≡ false
      first_low t lt = picked_low s.staying (window_end s) 0 t ts (omega arith) (omega (arith, lt))

      first_in : (t : ℕ) → s.staying ≤ t → t < window_end s → test first t ≡ test ts t
      first_in t le lt = let e : t + 0 ≡ t = omega arith in picked_in s.staying (window_end s) 0 t ts (omega arith) (omega (arith, le)) (omega (arith, lt)) ∙ ap (test ts) e

      steps_none : (n d : ℕ) → d + n * s.by < s.staying → test (steps_before s n first) d ≡ false
      steps_none zero d lt = none d
      steps_none (suc n) d lt =
          let more : suc n * s.by ≡ n * s.by + s.by = omega arith in
          appended (picked (suc n * s.by) (window_end s) (suc n * s.by) first) (steps_before s n first) d
          ∙ (ap₂ f
          (picked_test (suc n * s.by) (window_end s) (suc n * s.by) d first (omega arith)
          ∙ (ap (λ b. is_within (suc n * s.by) (window_end s) (d + suc n * s.by) && b) (first_low (d + suc n * s.by) lt) ∙ both_false (is_within (suc n * s.by) (window_end s) (d + suc n * s.by))))
          (steps_none n d (omega (arith, lt, more)))
          ∙ left false)

      steps_past : (n d : ℕ) → s.staying ≤ d → test (steps_before s n first) d ≡ false
      steps_past zero d le = none d
      steps_past (suc n) d le =
          let more : suc n * s.by ≡ n * s.by + s.by = omega arith in
          appended (picked (suc n * s.by) (window_end s) (suc n * s.by) first) (steps_before s n first) d
          ∙ (ap₂ f (picked_high (suc n * s.by) (window_end s) (suc n * s.by) d first (omega arith) (let low = window_low in omega (arith, low, le, more))) (steps_past n d le) ∙ left false)

      -- those below the first that stay
      moved_test : (n d : ℕ) → d < s.staying → f (test (picked (n * s.by) s.staying (n * s.by) ts) d) (test (steps_before s n first) d) ≡ test ts (later_turns s n d)
      moved_test zero d lt =
          let e : d + 0 * s.by ≡ d = omega arith in
          ap₂ f (picked_in (0 * s.by) s.staying (0 * s.by) d ts (omega arith) (omega arith) (omega (arith, lt, e))) (none d)
          ∙ (right (test ts (d + 0 * s.by)) ∙ ap (test ts) e)
      moved_test (suc n) d lt =
          elim (cases_lt (d + n * s.by) s.staying) as (λ _. f (test (picked (suc n * s.by) s.staying (suc n * s.by) ts) d) (test (steps_before s (suc n) first) d) ≡ test ts (later_turns s (suc n) d)) [
            | inl near ↦ elim (cases_lt (d + suc n * s.by) s.staying) as (λ _. f (test (picked (suc n * s.by) s.staying (suc n * s.by) ts) d) (test (steps_before s (suc n) first) d) ≡ test ts (later_turns s (suc n) d)) [
              | inl low ↦
                  ap₂ f (picked_in (suc n * s.by) s.staying (suc n * s.by) d ts (omega arith) (omega arith) low) (steps_none (suc n) d low)
                  ∙ (right (test ts (d + suc n * s.by)) ∙ ap (test ts) (sym (turns_move (suc n) d low)))
              | inr high ↦
                  ap₂ f (picked_high (suc n * s.by) s.staying (suc n * s.by) d ts (omega arith) high)
                  (appended (picked (suc n * s.by) (window_end s) (suc n * s.by) first) (steps_before s n first) d ∙ (ap (f (test (picked (suc n * s.by) (window_end s) (suc n * s.by) first) d)) (steps_none n d near) ∙ right _))
                  ∙ (left _ ∙ at_window near high)
            ]
            | inr far ↦
                let more : suc n * s.by ≡ n * s.by + s.by = omega arith in
                let before : test (steps_before s n first) d ≡ test ts (later_turns s n d) =
                sym (left (test (steps_before s n first) d)) ∙ (ap (λ b. f b (test (steps_before s n first) d)) (sym (picked_high (n * s.by) s.staying (n * s.by) d ts (omega arith) far)) ∙ moved_test n d lt) in
                ap₂ f (picked_high (suc n * s.by) s.staying (suc n * s.by) d ts (omega arith) (omega (arith, far, more)))
                (appended (picked (suc n * s.by) (window_end s) (suc n * s.by) first) (steps_before s n first) d
                ∙ (ap₂ f (picked_high (suc n * s.by) (window_end s) (suc n * s.by) d first (omega arith) (let low = window_low in omega (arith, low, far, more))) before ∙ left (test ts (later_turns s n d))))
                ∙ (left (test ts (later_turns s n d))
                ∙ ap (test ts) (sym (turns_more n d ∙ later_stays s (later_turns s n d) (turns_past n d far))))
          ]
        where
          at_window : d + n * s.by < s.staying → s.staying ≤ d + suc n * s.by → test (picked (suc n * s.by) (window_end s) (suc n * s.by) first) d ≡ test ts (later_turns s (suc n) d)
          at_window near high =
              let more : suc n * s.by ≡ n * s.by + s.by = omega arith in
              let sum : d + n * s.by + s.by ≡ d + suc n * s.by = omega (arith, more) in
              let last : later_turns s (suc n) d ≡ later_target s (d + n * s.by) = turns_more n d ∙ ap (later_target s) (turns_move n d near) in
              elim (cases_lt (d + suc n * s.by) s.detectors) as (λ _. test (picked (suc n * s.by) (window_end s) (suc n * s.by) first) d ≡ test ts (later_turns s (suc n) d)) [
                | inl there ↦ (
                    let inside = in_window (d + suc n * s.by) (omega (arith, near, more)) there in
                    picked_in (suc n * s.by) (window_end s) (suc n * s.by) d first (omega arith) (omega arith) inside
                    ∙ (first_in (d + suc n * s.by) high inside
                    ∙ ap (test ts) (sym (last ∙ (later_moves s (d + n * s.by) near (omega (arith, there, sum)) ∙ sum)))))
                | inr gone ↦ (
                    picked_high (suc n * s.by) (window_end s) (suc n * s.by) d first (omega arith) (let top = window_high in omega (arith, top, gone))
                    ∙ (sym (beyond s.targets s.targets ts (omega arith) below) ∙ ap (test ts) (sym (last ∙ later_none s (d + n * s.by) near (omega (arith, gone, sum))))))
              ]

      -- so many turns earlier
      pub grown_test : (n d : ℕ) → test (grown_list s n ts) d ≡ test ts (later_turns s n d)
      grown_test n d =
          let moved : List ℕ = picked (n * s.by) s.staying (n * s.by) ts in
          let steps : List ℕ = steps_before s n first in
          let rest : List ℕ = picked s.staying s.targets 0 ts in
          appended (moved ++ steps) rest d
          ∙ (ap (λ b. f b (test rest d)) (appended moved steps d)
          ∙ elim (cases_lt d s.staying) as (λ _. f (f (test moved d) (test steps d)) (test rest d) ≡ test ts (later_turns s n d)) [
            | inl lt ↦ ap (f (f (test moved d) (test steps d))) (moves_test d lt) ∙ (right (f (test moved d) (test steps d)) ∙ moved_test n d lt)
            | inr past ↦
                ap₂ f (ap₂ f (picked_high (n * s.by) s.staying (n * s.by) d ts (omega arith) (omega (arith, past))) (steps_past n d past) ∙ left false) (stays_test d past)
                ∙ (left (test ts d) ∙ ap (test ts) (sym (turns_stay n d past)))
          ])

-- ---- the numbers stay below those of targets
below-picked : (m low high by : ℕ) (ts : List ℕ) → All (λ t. t < m) ts → All (λ t. t < m) (picked low high by ts)
below-picked m low high by [] below = below
below-picked m low high by (t ∷ ts) below = by_test (below-picked m low high by ts (All-tail (λ t. t < m) t ts below)) (is_within low high t)
  where
    by_test : All (λ t. t < m) (picked low high by ts) → (b : Bool) → All (λ t. t < m) (if b then (t - by) ∷ picked low high by ts else picked low high by ts)
    by_test rest true = let lt : t < m = All-head (λ t. t < m) t ts below in All-cons (λ t. t < m) (t - by) (picked low high by ts) (omega (arith, lt)) rest
    by_test rest false = rest

below-steps : (m : ℕ) (s : Shift) (n : ℕ) (ts : List ℕ) → All (λ t. t < m) ts → All (λ t. t < m) (steps_before s n ts)
below-steps m s zero ts below = All-nil (λ t. t < m)
below-steps m s (suc n) ts below =
    All-append (λ t. t < m) (picked (suc n * s.by) (window_end s) (suc n * s.by) ts) (steps_before s n ts) (below-picked m (suc n * s.by) (window_end s) (suc n * s.by) ts below) (below-steps m s n ts below)

below-grown_list : (m : ℕ) (s : Shift) (n : ℕ) (ts : List ℕ) → All (λ t. t < m) ts → All (λ t. t < m) (grown_list s n ts)
below-grown_list m s n ts below =
    let P : ℕ → Type 0 = λ t. t < m in
    let steps : List ℕ = steps_before s n (picked s.staying (window_end s) 0 ts) in
    let rest : List ℕ = picked s.staying s.targets 0 ts in
    let moved : List ℕ = picked (n * s.by) s.staying (n * s.by) ts in
    All-append P (moved ++ steps) rest
    (All-append P moved steps (below-picked m (n * s.by) s.staying (n * s.by) ts below) (below-steps m s n (picked s.staying (window_end s) 0 ts) (below-picked m s.staying (window_end s) 0 ts below)))
    (below-picked m s.staying s.targets 0 ts below)

pub below-grown_lists : (m : ℕ) (s : Shift) (n : ℕ) (lists : List (List ℕ)) → All (All (λ t. t < m)) lists → All (All (λ t. t < m)) (grown_lists s n lists)
below-grown_lists m s n lists below =
    let P : List ℕ → Type 0 = All (λ t. t < m) in
    All-map P (grown_list s n) lists (All-weaker P (λ ts. P (grown_list s n ts)) (below-grown_list m s n) lists below)
