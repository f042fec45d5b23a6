-- A list of targets that ascends is that of its set, and the order of a list doesn't matter for its set.
use Rattle.std.proofs.Common.{◌≡◌, ℕ, zero, suc, ◌+◌, ◌<◌, ◌≤◌, ◌==◌, Bool, true, false, not, List, [], ◌∷◌, ◌++◌, length, map, get_or, inl, inr, refl, ap, ap₂, subst, sym, ◌∙◌, arith}
use Rattle.std.specs.Prelude.{⊤, All, cond, filter}
use Rattle.std.specs.List.{range_with_len, sum_by}
use Rattle.std.specs.List.Sorted.{IsPermutation, IsStrictlyIncreasing}
use Rattle.std.proofs.lemmas.Bool.{cases_eq, eq-eqb, ne_eqb}
use Rattle.std.proofs.lemmas.List.Sorted.{sum_by-IsPermutation}
use Rattle.std.proofs.lemmas.List.Sums.{sum_by-append}
use Rattle.pauli_word.specs.Parity.{exclusive_or}
use Rattle.pauli_word.proofs.Parities.{exclusive_or_left_comm}
use Rattle.step_model.specs.Targets.{is_listed}
use Rattle.step_model.specs.TargetSets.{members, row_of_set}
use Rattle.step_model.proofs.MemberLemmas.{filter_range_agree, map_agree}
use Rattle.step_model.proofs.RowLemmas.{get_or-row_of_set, length-row_of_set}

pub map_agree_on : {X Y : Type 0} (f g : X → Y) (xs : List X) → All (λ x. f x ≡ g x) xs → map f xs ≡ map g xs
map_agree_on f g [] same = refl
map_agree_on f g (x ∷ xs) same = ap₂ (λ y ys. y ∷ ys) (same 0 x (omega arith)) (map_agree_on f g xs (λ k d lt. same (suc k) d (omega (arith, lt))))

pub listed_pushed : (xs : List ℕ) (x t : ℕ) → is_listed (xs ++ x ∷ []) t ≡ exclusive_or (x == t) (is_listed xs t)
listed_pushed [] x t = refl
listed_pushed (y ∷ xs) x t = ap (exclusive_or (y == t)) (listed_pushed xs x t) ∙ exclusive_or_left_comm (y == t) (x == t) (is_listed xs t)

-- lists that have each number with the same parity stand for the same set
pub row_of_listed : (m : ℕ) (xs ys : List ℕ) → ((t : ℕ) → is_listed ys t ≡ is_listed xs t) → row_of_set m ys ≡ row_of_set m xs
row_of_listed m xs ys same = map_agree (is_listed ys) (is_listed xs) same (range_with_len 0 m)

-- ---- the order of a list doesn't matter
abbrev odd : ℕ → Bool
odd zero = false
odd (suc n) = not (odd n)

abbrev once : ℕ → ℕ → ℕ
once t u = cond (u == t) 1 0

odd_more : (b : Bool) (n : ℕ) → exclusive_or b (odd n) ≡ odd (cond b 1 0 + n)
odd_more true n = let e : suc n ≡ 1 + n = omega arith in ap odd e
odd_more false n = let e : n ≡ 0 + n = omega arith in ap odd e

listed_by_count : (t : ℕ) (xs : List ℕ) → is_listed xs t ≡ odd (sum_by (once t) xs)
listed_by_count t [] = refl
listed_by_count t (x ∷ xs) =
    let first : 0 + once t x ≡ once t x = omega arith in
    ap (exclusive_or (x == t)) (listed_by_count t xs)
    ∙ odd_more (x == t) (sum_by (once t) xs)
    ∙ ap (λ n. odd (n + sum_by (once t) xs)) (sym first)
    ∙ ap odd (sym (sum_by-append (once t) (x ∷ []) xs))

pub listed_of_permutation : (xs ys : List ℕ) → IsPermutation xs ys → (t : ℕ) → is_listed ys t ≡ is_listed xs t
listed_of_permutation xs ys p t = listed_by_count t ys ∙ (ap odd (sum_by-IsPermutation (once t) xs ys p) ∙ sym (listed_by_count t xs))

pub row_of_permutation : (m : ℕ) (xs ys : List ℕ) → IsPermutation xs ys → row_of_set m ys ≡ row_of_set m xs
row_of_permutation m xs ys p = row_of_listed m xs ys (listed_of_permutation xs ys p)

-- ---- an ascending list is that of its set
-- strictly ascending, from a number on
abbrev AscendsFrom : ℕ → List ℕ → Type 0
AscendsFrom a [] = ⊤
AscendsFrom a (x ∷ xs) = (a ≤ x) × AscendsFrom (suc x) xs

ascends_from : (a : ℕ) (xs : List ℕ) → (0 < length xs → a ≤ get_or xs 0 0) → ((k : ℕ) → suc k < length xs → get_or xs k 0 < get_or xs (suc k) 0) → AscendsFrom a xs
ascends_from a [] first rises = tt
ascends_from a (x ∷ xs) first rises = (
  first (omega arith),
  ascends_from (suc x) xs (λ some. let next : x < get_or xs 0 0 = rises 0 (omega (arith, some)) in omega (arith, next)) (λ k lt. rises (suc k) (omega (arith, lt))),
)

not_listed : (a t : ℕ) (xs : List ℕ) → t < a → AscendsFrom a xs → is_listed xs t ≡ false
not_listed a t [] lt h = refl
not_listed a t (x ∷ xs) lt h =
    let low : a ≤ x = h.0 in
    ap₂ exclusive_or (ne_eqb x t (λ e. omega (arith, e, lt, low))) (not_listed (suc x) t xs (omega (arith, lt, low)) h.1)

filter_past : (x a n : ℕ) (xs : List ℕ) → x < a → filter (is_listed (x ∷ xs)) (range_with_len a n) ≡ filter (is_listed xs) (range_with_len a n)
filter_past x a zero xs lt = refl
filter_past x a (suc n) xs lt =
    ap₂ (λ b l. cond b (a ∷ l) l)
    (ap (λ b. exclusive_or b (is_listed xs a)) (ne_eqb x a (λ e. omega (arith, e, lt))))
    (filter_past x (a + 1) n xs (omega (arith, lt)))

ascending_is_listed : (a n : ℕ) (xs : List ℕ) → AscendsFrom a xs → All (λ t. t < a + n) xs → xs ≡ filter (is_listed xs) (range_with_len a n)
ascending_is_listed a zero [] h below = refl
ascending_is_listed a zero (x ∷ xs) h below =
    let low : a ≤ x = h.0 in
    let high : x < a + 0 = below 0 x (omega arith) in
    absurd (omega (arith, low, high))
ascending_is_listed a (suc n) [] h below = ascending_is_listed (a + 1) n [] tt (λ k d lt. absurd (omega (arith, lt)))
ascending_is_listed a (suc n) (x ∷ xs) h below =
    elim (cases_eq x a) as (λ _. x ∷ xs ≡ filter (is_listed (x ∷ xs)) (range_with_len a (suc n))) [
      | inl e ↦
          let next : suc x ≡ a + 1 = omega (arith, e) in
          let rest : xs ≡ filter (is_listed (x ∷ xs)) (range_with_len (a + 1) n) =
          ascending_is_listed (a + 1) n xs (subst (λ b. AscendsFrom b xs) next h.1) (λ k d lt. let high : get_or xs k d < a + suc n = below (suc k) d (omega (arith, lt)) in omega (arith, high))
          ∙ sym (filter_past x (a + 1) n xs (omega (arith, e))) in
          let here : is_listed (x ∷ xs) a ≡ true = ap₂ exclusive_or (eq-eqb x a e) (not_listed (suc x) a xs (omega (arith, e)) h.1) in
          ap₂ (λ (y : ℕ) l. y ∷ l) e rest ∙ ap (λ b. cond b (a ∷ filter (is_listed (x ∷ xs)) (range_with_len (a + 1) n)) (filter (is_listed (x ∷ xs)) (range_with_len (a + 1) n))) (sym here)
      | inr ne ↦
          let low : a ≤ x = h.0 in
          let above : AscendsFrom (suc a) (x ∷ xs) = (omega (arith, low, ne), h.1) in
          let next : suc a ≡ a + 1 = omega arith in
          ascending_is_listed (a + 1) n (x ∷ xs) (subst (λ b. AscendsFrom b (x ∷ xs)) next above) (λ k d lt. let high : get_or (x ∷ xs) k d < a + suc n = below k d lt in omega (arith, high))
          ∙ ap (λ b. cond b (a ∷ filter (is_listed (x ∷ xs)) (range_with_len (a + 1) n)) (filter (is_listed (x ∷ xs)) (range_with_len (a + 1) n))) (sym (not_listed (suc a) a (x ∷ xs) (omega arith) above))
    ]

pub ascending_is_members : (m : ℕ) (xs : List ℕ) → IsStrictlyIncreasing xs → All (λ t. t < m) xs → xs ≡ members (row_of_set m xs)
ascending_is_members m xs rises below =
    ascending_is_listed 0 m xs
    (ascends_from 0 xs (λ some. omega arith) (λ k lt. let next : k + 1 ≡ suc k = omega arith in subst (λ j. get_or xs k 0 < get_or xs j 0) next (rises k (omega (arith, lt)))))
    (λ k d lt. let high : get_or xs k d < m = below k d lt in omega (arith, high))
    ∙ (filter_range_agree (is_listed xs) (λ t. get_or (row_of_set m xs) t false) 0 m (λ t lt. sym (get_or-row_of_set m xs t (omega (arith, lt))))
    ∙ ap (λ n. filter (λ t. get_or (row_of_set m xs) t false) (range_with_len 0 n)) (sym (length-row_of_set m xs)))
