-- Sets of targets as descending lists.
use Rattle.std.proofs.Common.{◌≡◌, ℕ, zero, suc, ◌+◌, ◌-◌, ◌<◌, ◌≤◌, ◌==◌, nat_lt, Bool, true, false, not, List, [], ◌∷◌, ◌++◌, length, map, get_or, set, drop, take, inl, inr, Result, Ok, Err, OnOk, OnErr, refl, ap, ap₂, subst, sym, ◌∙◌, arith, append-nil}
use Rattle.std.specs.Prelude.{◌⊎◌, All, filter, reverse, replicate, insert, remove, if◌then◌else◌}
use Rattle.std.specs.List.{range_with_len, refill}
use Rattle.std.proofs.Math.Nat.{suc_inj}
use Rattle.std.proofs.lemmas.Bool.{eqb-true, ltb-true, ltb-false, lt-ltb, le-ltb, cases_eq, eq-eqb, ne_eqb}
use Rattle.step_model.proofs.MemberLemmas.{filter_range_agree, filter_range_taken, filter_range_left, set-map-range}
use Rattle.std.proofs.lemmas.List.{drop_all, drop_more, reverse-append, take_all, take_more}
use Rattle.pauli_word.specs.Parity.{exclusive_or}
use Rattle.pauli_word.proofs.Parities.{exclusive_or_assoc, exclusive_or_left_comm}
use Rattle.step_model.specs.Targets.{is_listed}
use Rattle.trackers.specs.private.Sets.{DescendsBelow, xor_step, xor_sets}
use Rattle.step_model.specs.TargetSets.{members, row_of_set}
use Rattle.step_model.proofs.RowLemmas.{get_or-row_of_set, length-row_of_set, none_added}
use Rattle.bit_rows.specs.Rows.{xor_rows}
use Rattle.std.proofs.lemmas.List.FromFn.{length-map-range_with_len}

pub xor_sets-nil : (xs : List ℕ) → xor_sets xs [] ≡ xs
xor_sets-nil [] = refl
xor_sets-nil (x ∷ xs) = ap (λ l. x ∷ l) (xor_sets-nil xs)

-- ---- parities
listed_step : (x : ℕ) (xs ys : List ℕ) (t : ℕ) → ((zs : List ℕ) → is_listed (xor_sets xs zs) t ≡ exclusive_or (is_listed xs t) (is_listed zs t))
    → is_listed (xor_step x (xor_sets xs) ys) t ≡ exclusive_or (exclusive_or (x == t) (is_listed xs t)) (is_listed ys t)
listed_step x xs [] t later = ap (exclusive_or (x == t)) (later []) ∙ sym (exclusive_or_assoc (x == t) (is_listed xs t) false)
listed_step x xs (y ∷ ys) t later = by_order (listed_step x xs ys t later) (nat_lt y x) (nat_lt x y) refl refl
  where
    whole : Bool
    whole = exclusive_or (exclusive_or (x == t) (is_listed xs t)) (is_listed (y ∷ ys) t)

    by_order : is_listed (xor_step x (xor_sets xs) ys) t ≡ exclusive_or (exclusive_or (x == t) (is_listed xs t)) (is_listed ys t) → (b c : Bool) → nat_lt y x ≡ b → nat_lt x y ≡ c → is_listed (if b then x ∷ xor_sets xs (y ∷ ys) else (if c then y ∷ xor_step x (xor_sets xs) ys else xor_sets xs ys)) t ≡ whole
    by_order next true c p q = ap (exclusive_or (x == t)) (later (y ∷ ys)) ∙ sym (exclusive_or_assoc (x == t) (is_listed xs t) (is_listed (y ∷ ys) t))
    by_order next false true p q =
        ap (exclusive_or (y == t)) next
        ∙ exclusive_or_left_comm (y == t) (exclusive_or (x == t) (is_listed xs t)) (is_listed ys t)
    by_order next false false p q =
        let same : x ≡ y = omega (arith, ltb-false y x p, ltb-false x y q) in
        later ys
        ∙ (cancel (x == t) (is_listed xs t) (is_listed ys t)
        ∙ ap (λ z. exclusive_or (exclusive_or (x == t) (is_listed xs t)) (exclusive_or (z == t) (is_listed ys t))) same)
      where
        cancel : (a b c : Bool) → exclusive_or b c ≡ exclusive_or (exclusive_or a b) (exclusive_or a c)
        cancel false b c = refl
        cancel true false false = refl
        cancel true false true = refl
        cancel true true false = refl
        cancel true true true = refl

pub is_listed-xor_sets : (xs ys : List ℕ) (t : ℕ) → is_listed (xor_sets xs ys) t ≡ exclusive_or (is_listed xs t) (is_listed ys t)
is_listed-xor_sets [] ys t = refl
is_listed-xor_sets (x ∷ xs) ys t = listed_step x xs ys t (λ zs. is_listed-xor_sets xs zs t)

-- ---- order
pub DescendsBelow-weaker : (m n : ℕ) (xs : List ℕ) → m ≤ n → DescendsBelow m xs → DescendsBelow n xs
DescendsBelow-weaker m n [] le h = tt
DescendsBelow-weaker m n (x ∷ xs) le h = (omega (arith, le, h.0), h.1)

descends_step : (m x : ℕ) (xs ys : List ℕ) → x < m → DescendsBelow x xs → DescendsBelow m ys → ((k : ℕ) (zs : List ℕ) → DescendsBelow k xs → DescendsBelow k zs → DescendsBelow k (xor_sets xs zs)) → DescendsBelow m (xor_step x (xor_sets xs) ys)
descends_step m x xs [] low below others later = (low, later x [] below tt)
descends_step m x xs (y ∷ ys) low below others later = by_order (λ above. descends_step y x xs ys above below others.1 later) (nat_lt y x) (nat_lt x y) refl refl
  where
    by_order : (x < y → DescendsBelow y (xor_step x (xor_sets xs) ys)) → (b c : Bool) → nat_lt y x ≡ b → nat_lt x y ≡ c → DescendsBelow m (if b then x ∷ xor_sets xs (y ∷ ys) else (if c then y ∷ xor_step x (xor_sets xs) ys else xor_sets xs ys))
    by_order next true c p q = (low, later x (y ∷ ys) below (ltb-true y x p, others.1))
    by_order next false true p q = (others.0, next (ltb-true x y q))
    by_order next false false p q = later m ys (DescendsBelow-weaker x m xs (omega (arith, low)) below) (DescendsBelow-weaker y m ys (omega (arith, others.0)) others.1)

pub DescendsBelow-xor_sets : (m : ℕ) (xs ys : List ℕ) → DescendsBelow m xs → DescendsBelow m ys → DescendsBelow m (xor_sets xs ys)
DescendsBelow-xor_sets m [] ys h k = k
DescendsBelow-xor_sets m (x ∷ xs) ys h k = descends_step m x xs ys h.0 h.1 k (λ n zs p q. DescendsBelow-xor_sets n xs zs p q)

-- ---- a descending list, reversed, is the places of its row
not_listed : (m : ℕ) (xs : List ℕ) (t : ℕ) → m ≤ t → DescendsBelow m xs → is_listed xs t ≡ false
not_listed m [] t le h = refl
not_listed m (x ∷ xs) t le h = ap₂ exclusive_or (ne_eqb x t (λ e. let low : x < m = h.0 in omega (arith, e, le, low))) (not_listed x xs t (let low : x < m = h.0 in omega (arith, le, low)) h.1)

filter_listed : (x m : ℕ) (xs : List ℕ) → m ≤ x → filter (is_listed (x ∷ xs)) (range_with_len 0 m) ≡ filter (is_listed xs) (range_with_len 0 m)
filter_listed x m xs le =
    filter_range_agree (is_listed (x ∷ xs)) (is_listed xs) 0 m (λ t lt. ap (λ b. exclusive_or b (is_listed xs t)) (ne_eqb x t (λ e. omega (arith, e, le, lt))))

pub reverse_is_listed : (m : ℕ) (xs : List ℕ) → DescendsBelow m xs → reverse xs ≡ filter (is_listed xs) (range_with_len 0 m)
reverse_is_listed zero [] h = refl
reverse_is_listed zero (x ∷ xs) h = let low : x < 0 = h.0 in absurd (omega (arith, low))
reverse_is_listed (suc m) [] h = sym (none 0 (suc m))
  where
    none : (k n : ℕ) → filter (is_listed []) (range_with_len k n) ≡ []
    none k zero = refl
    none k (suc n) = none (k + 1) n
reverse_is_listed (suc m) (x ∷ xs) h =
    elim (cases_eq x m) as (λ _. reverse (x ∷ xs) ≡ filter (is_listed (x ∷ xs)) (range_with_len 0 (suc m))) [
      | inl e ↦
          reverse-append (x ∷ []) xs
          ∙ (ap₂ (λ l y. l ++ y ∷ []) (reverse_is_listed m xs (subst (λ n. DescendsBelow n xs) e h.1) ∙ sym (filter_listed x m xs (omega (arith, e)))) e
          ∙ filter_range_taken (is_listed (x ∷ xs)) m (filter (is_listed (x ∷ xs)) (range_with_len 0 m))
          (ap₂ exclusive_or (eq-eqb x m e) (not_listed x xs m (omega (arith, e)) h.1)) refl
          ∙ ap (λ n. filter (is_listed (x ∷ xs)) (range_with_len 0 n)) next)
      | inr ne ↦
          reverse_is_listed m (x ∷ xs) (let low : x < suc m = h.0 in omega (arith, low, ne), h.1)
          ∙ (filter_range_left (is_listed (x ∷ xs)) m (filter (is_listed (x ∷ xs)) (range_with_len 0 m))
          (not_listed m (x ∷ xs) m (omega arith) (let low : x < suc m = h.0 in omega (arith, low, ne), h.1)) refl
          ∙ ap (λ n. filter (is_listed (x ∷ xs)) (range_with_len 0 n)) next)
    ]
  where
    next : m + 1 ≡ suc m
    next = omega arith

-- ---- a step of a merge: the greater of two comes first, equal ones cancel
module _ (first second : List ℕ) (i j : ℕ) (some_first : i < length first) (some_second : j < length second) where
  abbrev x : ℕ
  x = get_or first i 0

  abbrev y : ℕ
  y = get_or second j 0

  abbrev by_order : Bool → Bool → List ℕ
  by_order b c =
      if b then x ∷ xor_sets (drop (i + 1) first) (y ∷ drop (j + 1) second) else (if c then y ∷ xor_sets (x ∷ drop (i + 1) first) (drop (j + 1) second) else xor_sets (drop (i + 1) first) (drop (j + 1) second))

  both_drop : xor_sets (drop i first) (drop j second) ≡ by_order (nat_lt y x) (nat_lt x y)
  both_drop = ap₂ xor_sets (drop_more first i 0 some_first) (drop_more second j 0 some_second)

  pub greater_first : y < x → x ∷ xor_sets (drop (i + 1) first) (drop j second) ≡ xor_sets (drop i first) (drop j second)
  greater_first h =
      ap (λ l. x ∷ xor_sets (drop (i + 1) first) l) (drop_more second j 0 some_second)
      ∙ sym (both_drop ∙ ap (λ b. by_order b (nat_lt x y)) (lt-ltb y x h))

  pub greater_second : x < y → y ∷ xor_sets (drop i first) (drop (j + 1) second) ≡ xor_sets (drop i first) (drop j second)
  greater_second h =
      ap (λ l. y ∷ xor_sets l (drop (j + 1) second)) (drop_more first i 0 some_first)
      ∙ sym (both_drop ∙ ap₂ by_order (le-ltb y x (omega (arith, h))) (lt-ltb x y h))

  pub both_cancel : x ≤ y → y ≤ x → xor_sets (drop (i + 1) first) (drop (j + 1) second) ≡ xor_sets (drop i first) (drop j second)
  both_cancel h k = sym (both_drop ∙ ap₂ by_order (le-ltb y x h) (le-ltb x y k))

-- ---- the end of a merge: one of the two is used up
pub first_left : (first second : List ℕ) (i j : ℕ) → (length first ≤ i) ⊎ (length second ≤ j) → i < length first → drop i first ≡ xor_sets (drop i first) (drop j second)
first_left first second i j (inl h) some = absurd (omega (arith, h, some))
first_left first second i j (inr h) some = sym (ap (xor_sets (drop i first)) (drop_all j second h) ∙ xor_sets-nil (drop i first))

pub second_left : (first second : List ℕ) (i j : ℕ) → length first ≤ i → drop j second ≡ xor_sets (drop i first) (drop j second)
second_left first second i j h = sym (ap (λ l. xor_sets l (drop j second)) (drop_all i first h))

pub rests_left : (first second : List ℕ) (i j : ℕ) → (length first ≤ i) ⊎ (length second ≤ j) → drop i first ++ drop j second ≡ xor_sets (drop i first) (drop j second)
rests_left first second i j (inl h) =
    ap (λ l. l ++ drop j second) (drop_all i first h) ∙ sym (ap (λ l. xor_sets l (drop j second)) (drop_all i first h))
rests_left first second i j (inr h) =
    ap (λ l. drop i first ++ l) (drop_all j second h)
    ∙ (append-nil (drop i first) ∙ sym (ap (xor_sets (drop i first)) (drop_all j second h) ∙ xor_sets-nil (drop i first)))

-- a sum that was made, or nothing
pub descends_summed : {V E : Type 0} (r : Result V E) (m : ℕ) (new sum : List ℕ) → OnOk r (new ≡ sum) → OnErr r (new ≡ []) → DescendsBelow m sum → DescendsBelow m new
descends_summed (Ok v) m new sum ok err h = subst (DescendsBelow m) (sym ok) h
descends_summed (Err e) m new sum ok err h = subst (DescendsBelow m) (sym err) tt

-- the same where a call that failed left some of a list that descends
pub descends_after : {V E : Type 0} (r : Result V E) (m : ℕ) (old new sum : List ℕ) → OnOk r ((n : ℕ) → DescendsBelow n old → new ≡ sum) → OnErr r ((n : ℕ) → DescendsBelow n old → DescendsBelow n new)
    → DescendsBelow m sum → DescendsBelow m old → DescendsBelow m new
descends_after (Ok v) m old new sum ok err h k = subst (DescendsBelow m) (sym (ok m k)) h
descends_after (Err e) m old new sum ok err h k = err m k

-- ---- one target toggled
pub descends_toggled : {V E : Type 0} (r : Result V E) (m t : ℕ) (old new : List ℕ) → OnOk r ((n : ℕ) → DescendsBelow n old → new ≡ xor_sets (t ∷ []) old) → OnErr r (new ≡ old) → t < m → DescendsBelow m old → DescendsBelow m new
descends_toggled (Ok v) m t old new ok err low h = subst (DescendsBelow m) (sym (ok m h)) (DescendsBelow-xor_sets m (t ∷ []) old (low, tt) h)
descends_toggled (Err e) m t old new ok err low h = subst (DescendsBelow m) (sym err) h

pub each_below : (m : ℕ) (xs : List ℕ) → DescendsBelow m xs → All (λ t. t < m) xs
each_below m [] h k d lt = absurd (omega (arith, lt))
each_below m (x ∷ xs) h zero d lt = h.0
each_below m (x ∷ xs) h (suc k) d lt = let low : get_or xs k d < x = each_below x xs h.1 k d (omega (arith, lt)) in let top : x < m = h.0 in omega (arith, low, top)

get_below : (m : ℕ) (xs : List ℕ) (k : ℕ) → DescendsBelow m xs → k < length xs → get_or xs k 0 < m
get_below m xs k h lt = each_below m xs h k 0 lt

xor_front : (t x : ℕ) (xs : List ℕ) → t < x → xor_sets (t ∷ []) (x ∷ xs) ≡ x ∷ xor_sets (t ∷ []) xs
xor_front t x xs h =
    ap₂ (λ b c. if b then t ∷ x ∷ xs else (if c then x ∷ xor_sets (t ∷ []) xs else xs))
    (le-ltb x t (omega (arith, h))) (lt-ltb t x h)

pub xor_same : (t x : ℕ) (xs : List ℕ) → x ≡ t → xor_sets (t ∷ []) (x ∷ xs) ≡ xs
xor_same t x xs h =
    ap₂ (λ b c. if b then t ∷ x ∷ xs else (if c then x ∷ xor_sets (t ∷ []) xs else xs))
    (le-ltb x t (omega (arith, h))) (le-ltb t x (omega (arith, h)))

pub xor_before : (t x : ℕ) (xs : List ℕ) → x < t → xor_sets (t ∷ []) (x ∷ xs) ≡ t ∷ x ∷ xs
xor_before t x xs h =
    ap (λ b. if b then t ∷ x ∷ xs else (if nat_lt t x then x ∷ xor_sets (t ∷ []) xs else xs)) (lt-ltb x t h)

pub removed : (m : ℕ) (xs : List ℕ) (j t : ℕ) → DescendsBelow m xs → j < length xs → get_or xs j 0 ≡ t → remove xs j ≡ xor_sets (t ∷ []) xs
removed m [] j t h lt e = absurd (omega (arith, lt))
removed m (x ∷ xs) zero t h lt e = sym (xor_same t x xs e)
removed m (x ∷ xs) (suc j) t h lt e =
    let low : get_or xs j 0 < x = get_below x xs j h.1 (omega (arith, lt)) in
    ap (λ l. x ∷ l) (removed x xs j t h.1 (omega (arith, lt)) e) ∙ sym (xor_front t x xs (omega (arith, low, e)))

two : (i : ℕ) → suc (suc i) - 1 ≡ suc i
two i = omega arith

pub inserted : (m : ℕ) (xs : List ℕ) (i t : ℕ) → DescendsBelow m xs → i ≤ length xs → ((k : ℕ) → i ≤ k → k < length xs → get_or xs k 0 < t) → (0 < i → t < get_or xs (i - 1) 0) → insert xs i t ≡ xor_sets (t ∷ []) xs
inserted m [] zero t h le below above = refl
inserted m [] (suc i) t h le below above = absurd (omega (arith, le))
inserted m (x ∷ xs) zero t h le below above = sym (xor_before t x xs (below 0 (omega arith) (omega arith)))
inserted m (x ∷ xs) (suc zero) t h le below above =
    let first : t < x = above (omega arith) in
    ap (λ l. x ∷ l) (inserted x xs zero t h.1 (omega arith) (λ k p q. below (suc k) (omega arith) (omega (arith, q))) (λ none. absurd (omega (arith, none))))
    ∙ sym (xor_front t x xs first)
inserted m (x ∷ xs) (suc (suc i)) t h le below above =
    let there : t < get_or xs i 0 = subst (λ j. t < get_or (x ∷ xs) j 0) (two i) (above (omega arith)) in
    let low : get_or xs i 0 < x = get_below x xs i h.1 (omega (arith, le)) in
    let e : suc i - 1 ≡ i = omega arith in
    ap (λ l. x ∷ l) (inserted x xs (suc i) t h.1 (omega (arith, le)) (λ k p q. below (suc k) (omega (arith, p)) (omega (arith, q))) (λ some. subst (λ j. t < get_or xs j 0) (sym e) there))
    ∙ sym (xor_front t x xs (omega (arith, low, there)))

-- a target that comes last
appended : (m : ℕ) (xs : List ℕ) (t : ℕ) → DescendsBelow m xs → ((k : ℕ) → suc k ≡ length xs → t < get_or xs k 0) → xs ++ t ∷ [] ≡ xor_sets (t ∷ []) xs
appended m [] t h last = refl
appended m (x ∷ []) t h last = sym (xor_front t x [] (last 0 refl))
appended m (x ∷ y ∷ xs) t h last =
    let low : t < get_or (y ∷ xs) (length xs) 0 = last (suc (length xs)) refl in
    let top : get_or (y ∷ xs) (length xs) 0 < x = get_below x (y ∷ xs) (length xs) h.1 (omega arith) in
    ap (λ l. x ∷ l) (appended x (y ∷ xs) t h.1 (λ k e. last (suc k) (ap suc e)))
    ∙ sym (xor_front t x (y ∷ xs) (omega (arith, low, top)))

-- the same by the last of them
pub came_last : (m : ℕ) (xs seen : List ℕ) (t : ℕ) → seen ≡ xs → (0 < length seen → t < get_or seen (length seen - 1) 0) → DescendsBelow m xs → xs ++ t ∷ [] ≡ xor_sets (t ∷ []) xs
came_last m xs seen t is low descends =
    appended m xs t descends
    (λ k e. let here = low (omega (arith, e, ap length is)) in
    let last : length seen - 1 ≡ k = omega (arith, e, ap length is) in
    subst (λ (s : List ℕ). t < get_or s k 0) is (subst (λ j. t < get_or seen j 0) last here))

-- a list behind targets that are above it
pub tail_merged : (m : ℕ) (xs ys : List ℕ) (y k : ℕ) → DescendsBelow m xs → 0 < k → k ≤ length xs → y < get_or xs (k - 1) 0
    → take k xs ++ xor_sets (drop k xs) (y ∷ ys) ≡ xor_sets xs (y ∷ ys)
tail_merged m xs ys y zero h some within above = absurd (omega (arith, some))
tail_merged m [] ys y (suc k) h some within above = absurd (omega (arith, within))
tail_merged m (x ∷ xs) ys y (suc zero) h some within above =
    sym (ap (λ b. if b then x ∷ xor_sets xs (y ∷ ys) else (if nat_lt x y then y ∷ xor_step x (xor_sets xs) ys else xor_sets xs ys)) (lt-ltb y x above))
tail_merged m (x ∷ xs) ys y (suc (suc k)) h some within above =
    let there : y < get_or xs k 0 = subst (λ j. y < get_or (x ∷ xs) j 0) (two k) above in
    let low : get_or xs k 0 < x = get_below x xs k h.1 (omega (arith, within)) in
    let e : suc k - 1 ≡ k = omega arith in
    ap (λ l. x ∷ l) (tail_merged x xs ys y (suc k) h.1 (omega arith) (omega (arith, within)) (subst (λ j. y < get_or xs j 0) (sym e) there))
    ∙ sym (ap (λ b. if b then x ∷ xor_sets xs (y ∷ ys) else (if nat_lt x y then y ∷ xor_step x (xor_sets xs) ys else xor_sets xs ys)) (lt-ltb y x (omega (arith, low, there))))

pub descends_taken : (m k : ℕ) (xs : List ℕ) → DescendsBelow m xs → DescendsBelow m (take k xs)
descends_taken m zero xs h = tt
descends_taken m (suc k) [] h = tt
descends_taken m (suc k) (x ∷ xs) h = (h.0, descends_taken x k xs h.1)

-- a list that ascends, the other way round, with one element more
pub descends_more : (xs : List ℕ) (i m : ℕ) → i < length xs → ((n : ℕ) → (0 < i → get_or xs (i - 1) 0 < n) → DescendsBelow n (reverse (take i xs))) → (0 < i → get_or xs (i - 1) 0 < get_or xs i 0) → get_or xs i 0 < m
    → DescendsBelow m (reverse (take (i + 1) xs))
descends_more xs i m within held above low =
    subst (DescendsBelow m) (sym (ap reverse (take_more xs i 0 within) ∙ reverse-append (take i xs) (get_or xs i 0 ∷ []))) (low, held (get_or xs i 0) above)

-- a list that is written over, all of it
pub all_refilled : (xs ws : List ℕ) → length ws ≡ length xs → refill (length xs) xs ws ≡ ws
all_refilled xs ws h =
    ap (λ rest. take (length xs) (ws ++ rest)) (drop_all (length ws) xs (omega (arith, h)))
    ∙ (ap (take (length xs)) (append-nil ws) ∙ take_all (length xs) ws (omega (arith, h)))

-- ---- rows
listed_more : (xs : List ℕ) (x t : ℕ) → is_listed (xs ++ x ∷ []) t ≡ exclusive_or (x == t) (is_listed xs t)
listed_more [] x t = refl
listed_more (y ∷ xs) x t = ap (exclusive_or (y == t)) (listed_more xs x t) ∙ exclusive_or_left_comm (y == t) (x == t) (is_listed xs t)

listed_reversed : (xs : List ℕ) (t : ℕ) → is_listed (reverse xs) t ≡ is_listed xs t
listed_reversed [] t = refl
listed_reversed (x ∷ xs) t =
    ap (λ ys. is_listed ys t) (reverse-append (x ∷ []) xs)
    ∙ (listed_more (reverse xs) x t ∙ ap (exclusive_or (x == t)) (listed_reversed xs t))

pub row_of_reversed : (m : ℕ) (xs : List ℕ) → row_of_set m (reverse xs) ≡ row_of_set m xs
row_of_reversed m xs = each 0 m
  where
    each : (k n : ℕ) → map (is_listed (reverse xs)) (range_with_len k n) ≡ map (is_listed xs) (range_with_len k n)
    each k zero = refl
    each k (suc n) = ap₂ (λ b l. b ∷ l) (listed_reversed xs k) (each (k + 1) n)

pub row_of_xor_sets : (m : ℕ) (xs ys : List ℕ) → row_of_set m (xor_sets xs ys) ≡ xor_rows (row_of_set m xs) (row_of_set m ys)
row_of_xor_sets m xs ys = each 0 m
  where
    each : (k m : ℕ) → map (is_listed (xor_sets xs ys)) (range_with_len k m) ≡ xor_rows (map (is_listed xs) (range_with_len k m)) (map (is_listed ys) (range_with_len k m))
    each k zero = refl
    each k (suc m) = ap₂ (λ b l. b ∷ l) (is_listed-xor_sets xs ys k) (each (k + 1) m)

pub row_of_toggled : (m t : ℕ) (xs : List ℕ) → t < m → row_of_set m (xor_sets (t ∷ []) xs) ≡ set (row_of_set m xs) t (not (get_or (row_of_set m xs) t false))
row_of_toggled m t xs h =
    sym (set-map-range (is_listed xs) (is_listed (xor_sets (t ∷ []) xs)) m t (not (get_or (row_of_set m xs) t false)) h
    (ap not (get_or-row_of_set m xs t h) ∙ sym (is_listed-xor_sets (t ∷ []) xs t ∙ ap (λ b. exclusive_or (exclusive_or b false) (is_listed xs t)) (eq-eqb t t refl)))
    (λ r other. sym (is_listed-xor_sets (t ∷ []) xs r ∙ ap (λ b. exclusive_or (exclusive_or b false) (is_listed xs r)) (ne_eqb t r (λ e. other (sym e))))))

-- a descending list, reversed, is the members of its row
pub reverse_is_members : (m : ℕ) (xs : List ℕ) → DescendsBelow m xs → reverse xs ≡ members (row_of_set m xs)
reverse_is_members m xs h =
    reverse_is_listed m xs h
    ∙ (filter_range_agree (is_listed xs) (λ t. get_or (row_of_set m xs) t false) 0 m (λ t lt. sym (get_or-row_of_set m xs t (omega (arith, lt))))
    ∙ ap (λ n. filter (λ t. get_or (row_of_set m xs) t false) (range_with_len 0 n)) (sym (length-row_of_set m xs)))

-- rows of one length are of one number of targets
pub same_count : (m n : ℕ) (xs ys : List ℕ) (p q : List Bool) → row_of_set m xs ≡ p → row_of_set n ys ≡ q → length p ≡ length q → m ≡ n
same_count m n xs ys p q a b h =
    sym (length-row_of_set m xs) ∙ (ap length a ∙ (h ∙ (sym (ap length b) ∙ length-row_of_set n ys)))

pub none_before : (m : ℕ) (row : List Bool) → length row ≡ m → xor_rows (replicate m false) row ≡ row
none_before zero [] h = refl
none_before zero (b ∷ row) h = cc
none_before (suc m) [] h = cc
none_before (suc m) (b ∷ row) h = ap (λ r. b ∷ r) (none_before m row (suc_inj h))

-- a list of one element
pub only_one : {A : Type 0} (xs : List A) (d : A) → length xs ≡ 1 → xs ≡ get_or xs 0 d ∷ []
only_one [] d h = cc
only_one (x ∷ []) d h = refl
only_one (x ∷ y ∷ more) d h = absurd (omega (arith, h))

pub only_two : {A : Type 0} (xs : List A) (d : A) → length xs ≡ 2 → xs ≡ get_or xs 0 d ∷ get_or xs 1 d ∷ []
only_two [] d h = cc
only_two (x ∷ []) d h = absurd (omega (arith, h))
only_two (x ∷ y ∷ []) d h = refl
only_two (x ∷ y ∷ z ∷ more) d h = absurd (omega (arith, h))

pub no_elements : (set : List ℕ) → (length set == 0) ≡ true → set ≡ []
no_elements [] h = refl
no_elements (x ∷ others) h = absurd (omega (arith, eqb-true (suc (length others)) 0 h))

pub add_none : (row other : List Bool) (n : ℕ) (set : List ℕ) → length row ≡ length other → (length set == 0) ≡ true → row_of_set n set ≡ other → row ≡ xor_rows row other
add_none row other n set same none is =
    let of_none : row_of_set n [] ≡ other = sym (ap (row_of_set n) (no_elements set none)) ∙ is in
    let long : length row ≡ n = same ∙ (sym (ap length of_none) ∙ length-map-range_with_len (is_listed []) 0 n) in
    sym (none_added row 0 n long) ∙ ap (xor_rows row) of_none

-- two sets of as many targets: the sum of their lists is listed below, and its row is the sum of their rows
pub record AreSummed (m : ℕ) (mine other : List ℕ) (p q : List Bool) : Type 0 where
  pub row : (new : List ℕ) → new ≡ xor_sets mine other → row_of_set m new ≡ xor_rows p q
  pub below : DescendsBelow m mine → DescendsBelow m (xor_sets mine other)

pub summed : (m n : ℕ) (mine other : List ℕ) (p q : List Bool) → row_of_set m mine ≡ p → row_of_set n other ≡ q → length p ≡ length q → DescendsBelow n other → AreSummed m mine other p q
summed m n mine other p q is_p is_q long descends =
    let counted : m ≡ n = same_count m n mine other p q is_p is_q long in
    record {
      row = λ new is. ap (row_of_set m) is ∙ (row_of_xor_sets m mine other ∙ ap₂ xor_rows is_p (ap (λ n. row_of_set n other) counted ∙ is_q));
      below = λ h. DescendsBelow-xor_sets m mine other h (subst (λ n. DescendsBelow n other) (sym counted) descends);
    }
