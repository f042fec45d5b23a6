-- A list of numbers that is read before their count is known: what its pieces write, and what sorting tells of it.
use Rattle.std.proofs.Common.{◌≡◌, ℕ, ◌-◌, ◌<◌, ◌≤◌, ◌^◌, ◌==◌, nat_lt, Bool, true, false, not, ◌&&◌, ◌||◌, cond, List, [], ◌∷◌, length, map, Some, None, refl, sym, ap, subst, ◌∙◌, inl, inr, arith}
use Rattle.std.specs.Prelude.{is_some, IsTrue, MatchBool, ◌↔◌}
use Rattle.std.specs.List.{AllByRecursion, AllWithin, HoldsAt, IsAllAdjacentAnswer, IsDistinct, cons_option, filter_map, list_all, list_any, range_with_len, slice_split}
use Rattle.std.specs.List.Sorted.{IsPermutation, IsSorted, IsStrictlyIncreasing}
use Rattle.std.specs.Ordering.{nat_cmp}
use Rattle.std.proofs.Math.Dec.{eqb}
use Rattle.std.proofs.lemmas.Bool.{eqb-true, lt-ltb, ltb-true, ltb-false, true≢false}
use Rattle.std.proofs.lemmas.Bool.Decides.{eqb_tells}
use Rattle.std.proofs.lemmas.List.Folds.{list_all_at}
use Rattle.std.proofs.lemmas.List.Kept.{AllPairs-from_increasing}
use Rattle.std.proofs.lemmas.List.Sorted.{IsNonDecreasingBy-from_sort, IsPermutation-sym, list_any-IsPermutation}
use Rattle.std.proofs.lemmas.List.Sums.{AllPass-from_list_all, list_all-from_AllPass}
use Rattle.std.proofs.lemmas.Map.Keys.{IsDistinct-from_apart, IsDistinct-IsPermutation, IsStrictlyIncreasing-from_distinct}
use Rattle.forward_sim.specs.Listed.{IsListOf, IsNoList}
use Rattle.forward_sim.specs.Lists.{is_among, is_distinct, is_number, marks, marks_of, numbers_of}
use Rattle.forward_sim.specs.private.Numbers.{is_comma, number_below, number_of}
use Rattle.forward_sim.proofs.NumberLemmas.{eqb-comm, set_all-marks}

-- ---- pieces

-- what a test of every piece answers
pub all_answered : (p : List ℕ → Bool) (pieces : List (List ℕ)) (r : Bool)
    → MatchBool r (AllWithin (λ x. p x ≡ true) pieces 0 (length pieces)) ((k : ℕ) × (k < length pieces) × HoldsAt (λ x. p x ≡ false) pieces k)
    → r ≡ list_all p pieces
all_answered p pieces true h = sym (list_all-from_AllPass p pieces (λ k d lt. h k d (omega arith) lt))
all_answered p pieces false h = sym (list_all_at p pieces h.0 [] h.1 (h.2 []))

-- whether each piece is a number below a limit
abbrev pub are_below : ℕ → List (List ℕ) → Bool
are_below limit pieces = list_all (λ piece. is_some (number_below limit piece)) pieces

-- a piece and those behind it, in the order of the loop and in that of the definition
in_order : (N L A B : Bool) (n : ℕ) → (is_some (cond (N && L) (Some n) None) && (A && B)) ≡ ((N && A) && (L && B))
in_order true true A B n = refl
in_order true false true B n = refl
in_order true false false B n = refl
in_order false L A B n = refl

pub are_below-is : (limit : ℕ) (pieces : List (List ℕ))
    → are_below limit pieces ≡ (list_all is_number pieces && list_all (λ n. nat_lt n limit) (map number_of pieces))
are_below-is limit [] = refl
are_below-is limit (piece ∷ pieces) =
    ap (λ rest. is_some (number_below limit piece) && rest) (are_below-is limit pieces)
    ∙ in_order (is_number piece) (nat_lt (number_of piece) limit) (list_all is_number pieces) (list_all (λ n. nat_lt n limit) (map number_of pieces)) (number_of piece)

-- a piece that is a number gives it, and those behind it give theirs
at_piece : (b : Bool) (n : ℕ) (rest : Bool) (found ns : List ℕ) → (rest ≡ true → found ≡ ns)
    → (is_some (cond b (Some n) None) && rest) ≡ true → cons_option (cond b (Some n) None) found ≡ n ∷ ns
at_piece true n rest found ns behind h = ap (λ ms. n ∷ ms) (behind h)
at_piece false n rest found ns behind h = absurd (true≢false (sym h))

-- the numbers of those pieces
pub numbers_of_pieces : (limit : ℕ) (pieces : List (List ℕ)) → are_below limit pieces ≡ true → filter_map (number_below limit) pieces ≡ map number_of pieces
numbers_of_pieces limit [] h = refl
numbers_of_pieces limit (piece ∷ pieces) h =
    at_piece (is_number piece && nat_lt (number_of piece) limit) (number_of piece) (are_below limit pieces) (filter_map (number_below limit) pieces) (map number_of pieces)
    (numbers_of_pieces limit pieces) h

-- ---- numbers in another order

-- what is asked of neighbours says whether numbers rise
pub rise_answered : (ns : List ℕ) (r : Bool) → IsAllAdjacentAnswer (λ x y b. b ≡ nat_lt x y) ns r → IsTrue r ↔ IsStrictlyIncreasing ns
rise_answered ns true h = ((λ _ k lt. ltb-true _ _ (sym (h k 0 lt))), λ _. refl)
rise_answered ns false h = (
  (λ no. absurd (true≢false (sym no))),
  (λ up. let below = ltb-false _ _ (sym (h.2 0)) in let less = up h.0 h.1 in absurd (omega arith)),
)

de_morgan : (a b : Bool) → (a && not b) ≡ not (not a || b)
de_morgan true b = refl
de_morgan false b = refl

list_all-any : (p : ℕ → Bool) (ns : List ℕ) → list_all p ns ≡ not (list_any (λ n. not (p n)) ns)
list_all-any p [] = refl
list_all-any p (n ∷ ns) = ap (λ rest. p n && rest) (list_all-any p ns) ∙ de_morgan (p n) (list_any (λ m. not (p m)) ns)

list_all-permuted : (p : ℕ → Bool) (ns ms : List ℕ) → IsPermutation ns ms → list_all p ns ≡ list_all p ms
list_all-permuted p ns ms same =
    list_all-any p ns ∙ (ap not (list_any-IsPermutation (λ n. not (p n)) ns ms same) ∙ sym (list_all-any p ms))

map_alike : (f g : ℕ → Bool) → ((n : ℕ) → f n ≡ g n) → (ns : List ℕ) → map f ns ≡ map g ns
map_alike f g h [] = refl
map_alike f g h (n ∷ ns) = ap (λ b. b ∷ map f ns) (h n) ∙ ap (λ bs. g n ∷ bs) (map_alike f g h ns)

marks-permuted : (count : ℕ) (ns ms : List ℕ) → IsPermutation ns ms → marks count ns ≡ marks count ms
marks-permuted count ns ms same =
    map_alike (is_among ns) (is_among ms) (λ k. list_any-IsPermutation (λ other. other == k) ns ms same) (range_with_len 0 count)

neither : (a b : Bool) → (a || b) ≡ false → (a ≡ false) × (b ≡ false)
neither true b h = absurd (true≢false h)
neither false b h = (refl, h)

both : (a b : Bool) → (a && b) ≡ true → (a ≡ true) × (b ≡ true)
both true b h = (refl, h)
both false b h = absurd (true≢false (sym h))

differ : (n : ℕ) (ns : List ℕ) → is_among ns n ≡ false → AllByRecursion (λ m. eqb n m ≡ false) ns
differ n [] h = tt
differ n (m ∷ ns) h = let none = neither (m == n) (is_among ns n) h in (eqb-comm n m ∙ none.0, differ n ns none.1)

among-none : (n : ℕ) (ns : List ℕ) → AllByRecursion (λ m. eqb n m ≡ false) ns → is_among ns n ≡ false
among-none n [] h = refl
among-none n (m ∷ ns) h = ap (λ b. b || is_among ns n) (eqb-comm m n ∙ h.0) ∙ among-none n ns h.1

not_true : (b : Bool) → not b ≡ true → b ≡ false
not_true true h = absurd (true≢false (sym h))
not_true false h = refl

distinct : (ns : List ℕ) → is_distinct ns ≡ true → IsDistinct eqb ns
unfolding IsDistinct
distinct [] h = tt
distinct (n ∷ ns) h =
    let parts = both (not (is_among ns n)) (is_distinct ns) h in
    (differ n ns (not_true (is_among ns n) parts.0), distinct ns parts.1)

distinct_back : (ns : List ℕ) → IsDistinct eqb ns → is_distinct ns ≡ true
unfolding IsDistinct
distinct_back [] h = refl
distinct_back (n ∷ ns) h = ap (λ b. not b && is_distinct ns) (among-none n ns h.0) ∙ distinct_back ns h.1

below_differs : (a b : ℕ) → a < b → eqb a b ≡ false
below_differs a b lt = elim (eqb_tells a b) [ inl p ↦ absurd (let e = p.1 in omega (arith, e, lt)) | inr p ↦ p.0 ]

module _ (ns ms : List ℕ) (same : IsPermutation ns ms) where
  -- numbers that are sorted rise if none was there twice
  rises : IsSorted nat_cmp ms → is_distinct ns ≡ true → IsStrictlyIncreasing ms
  rises sorted apart =
      IsStrictlyIncreasing-from_distinct ms (IsNonDecreasingBy-from_sort (λ x. x) ms sorted)
      (IsDistinct-IsPermutation eqb eqb-comm ns ms same (distinct ns apart))

  -- and only then
  none_twice : IsStrictlyIncreasing ms → is_distinct ns ≡ true
  none_twice up =
      distinct_back ns (IsDistinct-IsPermutation eqb eqb-comm ms ns (IsPermutation-sym ns ms same)
      (IsDistinct-from_apart eqb ms (λ i j d ij lj. below_differs _ _ (AllPairs-from_increasing ms up i j d ij lj))))

-- ---- the text

not_empty : (count : ℕ) (text : List ℕ) → (length text == 0) ≡ false
    → numbers_of count text ≡ cond (list_all is_number (slice_split is_comma text)) (marks_of count (map number_of (slice_split is_comma text))) None
not_empty count [] some = absurd (cc)
not_empty count (b ∷ text) some = refl

-- an empty text is the empty list
of_empty : (text : List ℕ) → (length text == 0) ≡ true → IsListOf text []
of_empty [] none = record { ascending = λ k lt. absurd (omega arith); marks = λ count. ap Some (set_all-marks count []) }
of_empty (b ∷ text) none = absurd (let e = eqb-true _ _ none in omega arith)

pub empty_list : (text ms : List ℕ) → (length text == 0) ≡ true → ms ≡ [] → IsListOf text ms
empty_list text ms none e = subst (λ (ns : List ℕ). IsListOf text ns) (sym e) (of_empty text none)

all_marked : (numbers below apart : Bool) (marks : List Bool) → numbers ≡ true → apart ≡ true
    → cond numbers (cond (below && apart) (Some marks) None) None ≡ cond below (Some marks) None
all_marked true true true marks p q = refl
all_marked true false true marks p q = refl
all_marked false below apart marks p q = absurd (true≢false (sym p))
all_marked true below false marks p q = absurd (true≢false (sym q))

none_marked : (numbers below apart : Bool) (marks : List Bool) → (numbers ≡ true → below ≡ true → apart ≡ true → ⊥)
    → cond numbers (cond (below && apart) (Some marks) None) None ≡ None
none_marked true true true marks h = absurd (h refl refl refl)
none_marked true true false marks h = refl
none_marked true false apart marks h = refl
none_marked false below apart marks h = refl

list_all-more : (count limit : ℕ) → count ≤ limit → (ns : List ℕ) → list_all (λ n. nat_lt n count) ns ≡ true → list_all (λ n. nat_lt n limit) ns ≡ true
list_all-more count limit le ns h =
    list_all-from_AllPass (λ n. nat_lt n limit) ns (λ k d lt.
    lt-ltb _ _ (let less = ltb-true _ _ (AllPass-from_list_all (λ n. nat_lt n count) ns h k d lt) in omega arith))

module _ (text : List ℕ) (some : (length text == 0) ≡ false) where
  abbrev pieces : List (List ℕ)
  pieces = slice_split is_comma text

  -- a piece is no number, or too great
  pub no_list_by_piece : are_below (2 ^ 64 - 1) pieces ≡ false → IsNoList text
  no_list_by_piece bad count low =
      let ns = map number_of pieces in
      not_empty count text some
      ∙ none_marked (list_all is_number pieces) (list_all (λ n. nat_lt n count) ns) (is_distinct ns) (marks count ns)
      (λ numbers below apart. true≢false (
      sym (ap (λ b. b && list_all (λ n. nat_lt n (2 ^ 64 - 1)) ns) numbers ∙ list_all-more count (2 ^ 64 - 1) (omega arith) ns below)
      ∙ (sym (are_below-is (2 ^ 64 - 1) pieces) ∙ bad)))

  module _ (limit : ℕ) (ms : List ℕ) (all : are_below limit pieces ≡ true) (same : IsPermutation (filter_map (number_below limit) pieces) ms) where
    permuted : IsPermutation (map number_of pieces) ms
    permuted = subst (λ (ns : List ℕ). IsPermutation ns ms) (numbers_of_pieces limit pieces all) same

    -- the numbers rise once they are sorted
    pub list_by_rise : IsStrictlyIncreasing ms → IsListOf text ms
    list_by_rise up =
        let ns = map number_of pieces in
        let numbers = (both _ _ (sym (are_below-is limit pieces) ∙ all)).0 in
        record {
          ascending = up;
          marks = λ count.
              not_empty count text some
              ∙ (all_marked (list_all is_number pieces) (list_all (λ n. nat_lt n count) ns) (is_distinct ns) (marks count ns) numbers (none_twice ns ms permuted up)
              ∙ (ap (λ b. cond b (Some (marks count ns)) None) (list_all-permuted (λ n. nat_lt n count) ns ms permuted)
              ∙ ap (λ bs. cond (list_all (λ n. nat_lt n count) ms) (Some bs) None) (marks-permuted count ns ms permuted)));
        }

    -- one is there twice
    pub no_list_by_twice : IsSorted nat_cmp ms → (IsStrictlyIncreasing ms → ⊥) → IsNoList text
    no_list_by_twice sorted falls count low =
        let ns = map number_of pieces in
        not_empty count text some
        ∙ none_marked (list_all is_number pieces) (list_all (λ n. nat_lt n count) ns) (is_distinct ns) (marks count ns)
        (λ numbers below apart. falls (rises ns ms permuted sorted apart))
