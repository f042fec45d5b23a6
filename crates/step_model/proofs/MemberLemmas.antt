-- Lists made from the numbers of a range, and the members of sets of numbers.
use Rattle.std.proofs.Common.{◌≡◌, ◌≢◌, ℕ, zero, suc, ◌+◌, ◌≤◌, ◌<◌, Bool, true, false, List, [], ◌∷◌, ◌++◌, map, length, get_or, set, refl, ap, ap₂, sym, ◌∙◌, eqb, inl, inr, arith, length-set, get_or-set_same, get_or-set_other}
use Rattle.std.specs.Prelude.{filter, cond, All}
use Rattle.std.specs.List.{range_with_len, list_any}
use Rattle.std.specs.List.Sorted.{IsStrictlyIncreasing}
use Rattle.std.proofs.lemmas.List.Elements.{All-weaker, All-filter}
use Rattle.std.proofs.lemmas.List.Kept.{IsStrictlyIncreasing-filter}
use Rattle.std.proofs.lemmas.Bool.{cases_eq, eq-eqb, ne_eqb}
use Rattle.std.proofs.lemmas.List.{map-id, append-nil}
use Rattle.pauli_word.specs.Parity.{exclusive_or}
use Rattle.step_model.specs.Targets.{is_listed}
use Rattle.step_model.proofs.RangeLemmas.{range_rises, among_range}
use Rattle.step_model.specs.TargetSets.{members}
use Rattle.std.proofs.lemmas.List.FromFn.{length-range_with_len, get_or-range_with_len, filter_of_map_range_with_len_more, length-map-range_with_len, get_or-map-range_with_len, fill_by_all}

pub map-map : {X Y Z : Type 0} (f : Y → Z) (h : X → Y) (xs : List X) → map f (map h xs) ≡ map (λ x. f (h x)) xs
map-map f h [] = refl
map-map f h (x ∷ xs) = ap (λ ys. f (h x) ∷ ys) (map-map f h xs)

pub map_agree : {X Y : Type 0} (f g : X → Y) → ((x : X) → f x ≡ g x) → (xs : List X) → map f xs ≡ map g xs
map_agree f g same [] = refl
map_agree f g same (x ∷ xs) = ap (λ y. y ∷ map f xs) (same x) ∙ ap (λ ys. g x ∷ ys) (map_agree f g same xs)

-- one number more
pub filter_range_more : (p : ℕ → Bool) (n : ℕ) → filter p (range_with_len 0 (n + 1)) ≡ filter p (range_with_len 0 n) ++ cond (p n) (n ∷ []) []
filter_range_more p n =
    sym (ap (filter p) (map-id (range_with_len 0 (n + 1))))
    ∙ filter_of_map_range_with_len_more p (λ x. x) 0 n n (omega arith)
    ∙ ap (λ xs. filter p xs ++ cond (p n) (n ∷ []) []) (map-id (range_with_len 0 n))

pub filter_range_taken : (p : ℕ → Bool) (n : ℕ) (xs : List ℕ) → p n ≡ true → xs ≡ filter p (range_with_len 0 n) → xs ++ n ∷ [] ≡ filter p (range_with_len 0 (n + 1))
filter_range_taken p n xs here h =
    ap (λ ys. ys ++ n ∷ []) h ∙ (ap (λ b. filter p (range_with_len 0 n) ++ cond b (n ∷ []) []) (sym here) ∙ sym (filter_range_more p n))

pub filter_range_left : (p : ℕ → Bool) (n : ℕ) (xs : List ℕ) → p n ≡ false → xs ≡ filter p (range_with_len 0 n) → xs ≡ filter p (range_with_len 0 (n + 1))
filter_range_left p n xs here h =
    h ∙ (sym (append-nil (filter p (range_with_len 0 n))) ∙ (ap (λ b. filter p (range_with_len 0 n) ++ cond b (n ∷ []) []) (sym here) ∙ sym (filter_range_more p n)))

-- two tests that agree at each number of the range
pub filter_range_agree : (p q : ℕ → Bool) (k m : ℕ) → ((x : ℕ) → x < k + m → p x ≡ q x) → filter p (range_with_len k m) ≡ filter q (range_with_len k m)
filter_range_agree p q k zero same = refl
filter_range_agree p q k (suc m) same =
    ap (λ b. cond b (k ∷ filter p (range_with_len (k + 1) m)) (filter p (range_with_len (k + 1) m))) (same k (omega arith))
    ∙ ap (λ xs. cond (q k) (k ∷ xs) xs) (filter_range_agree p q (k + 1) m (λ x h. same x (omega arith)))

pub map_range_below : {X : Type 0} (f g : ℕ → X) (k m : ℕ) → ((x : ℕ) → x < k + m → f x ≡ g x) → map f (range_with_len k m) ≡ map g (range_with_len k m)
map_range_below f g k zero same = refl
map_range_below f g k (suc m) same =
    ap (λ y. y ∷ map f (range_with_len (k + 1) m)) (same k (omega arith))
    ∙ ap (λ ys. g k ∷ ys) (map_range_below f g (k + 1) m (λ x h. same x (omega arith)))

pub All-range : (k m : ℕ) → All (λ x. x < k + m) (range_with_len k m)
All-range k m i d h =
    let within : i < m = omega (arith, length-range_with_len k m) in
    let here = get_or-range_with_len k m i d within in
    omega arith

-- a list by the numbers of a range, with one item replaced
pub set-map-range : {X : Type 0} (f g : ℕ → X) (n s : ℕ) (y : X) → s < n → y ≡ g s → ((r : ℕ) → r ≢ s → f r ≡ g r) → set (map f (range_with_len 0 n)) s y ≡ map g (range_with_len 0 n)
set-map-range f g n s y within here elsewhere =
    fill_by_all g (set (map f (range_with_len 0 n)) s y) n y
    (length-set (map f (range_with_len 0 n)) s y ∙ length-map-range_with_len f 0 n)
    at_each
  where
    long : length (map f (range_with_len 0 n)) ≡ n
    long = length-map-range_with_len f 0 n

    at_each : (k : ℕ) → k < n → get_or (set (map f (range_with_len 0 n)) s y) k y ≡ g k
    at_each k h =
        elim (cases_eq k s) [
          | inl e ↦ ap (λ j. get_or (set (map f (range_with_len 0 n)) s y) j y) e ∙ (get_or-set_same (map f (range_with_len 0 n)) s y y (omega (arith, long)) ∙ (here ∙ ap g (sym e)))
          | inr e ↦ get_or-set_other (map f (range_with_len 0 n)) s k y y e ∙ (get_or-map-range_with_len f 0 n k k y h (omega arith) ∙ elsewhere k e)
        ]

-- a number is among the members of a set where its bit is set
pub among_members : (bits : List Bool) (k : ℕ) → k < length bits → list_any (λ u. eqb k u) (members bits) ≡ get_or bits k false
among_members bits k h = among_range (λ t. get_or bits t false) k 0 (length bits) (omega arith) (omega (arith, h))

-- the same by parity
listed_first : (p : ℕ → Bool) (d : ℕ) (xs : List ℕ) (b : Bool) → is_listed xs d ≡ false → is_listed (cond b (d ∷ xs) xs) d ≡ b
listed_first p d xs true h = ap₂ exclusive_or (eq-eqb d d refl) h
listed_first p d xs false h = h

listed_other : (d x : ℕ) (xs : List ℕ) (b : Bool) → x ≢ d → is_listed (cond b (x ∷ xs) xs) d ≡ is_listed xs d
listed_other d x xs true h = ap (λ b. exclusive_or b (is_listed xs d)) (ne_eqb x d h)
listed_other d x xs false h = refl

listed_below : (p : ℕ → Bool) (d a n : ℕ) → d < a → is_listed (filter p (range_with_len a n)) d ≡ false
listed_below p d a zero h = refl
listed_below p d a (suc n) h = listed_other d a (filter p (range_with_len (a + 1) n)) (p a) (λ e. omega (arith, e, h)) ∙ listed_below p d (a + 1) n (omega (arith, h))

pub listed_in_range : (p : ℕ → Bool) (d a n : ℕ) → a ≤ d → d < a + n → is_listed (filter p (range_with_len a n)) d ≡ p d
listed_in_range p d a zero h k = absurd (omega arith)
listed_in_range p d a (suc n) h k =
    elim (cases_eq d a) as (λ _. is_listed (filter p (range_with_len a (suc n))) d ≡ p d) [
      | inl e ↦
          ap (λ x. is_listed (cond (p x) (x ∷ filter p (range_with_len (a + 1) n)) (filter p (range_with_len (a + 1) n))) d) (sym e)
          ∙ listed_first p d (filter p (range_with_len (a + 1) n)) (p d) (listed_below p d (a + 1) n (omega arith))
      | inr ne ↦
          listed_other d a (filter p (range_with_len (a + 1) n)) (p a) (λ e. ne (sym e))
          ∙ listed_in_range p d (a + 1) n (omega arith) (omega arith)
    ]

-- ---- members of sets
pub members_ascend : (bits : List Bool) → IsStrictlyIncreasing (members bits)
members_ascend bits = IsStrictlyIncreasing-filter (λ t. get_or bits t false) (range_with_len 0 (length bits)) (range_rises 0 (length bits))

pub members_within : (bits : List Bool) → All (λ t. t < length bits) (members bits)
members_within bits =
    All-filter (λ t. get_or bits t false) (λ t. t < length bits) (range_with_len 0 (length bits))
    (All-weaker (λ t. t < 0 + length bits) (λ t. t < length bits) (λ t within. omega (arith, within)) (range_with_len 0 (length bits)) (All-range 0 (length bits)))
