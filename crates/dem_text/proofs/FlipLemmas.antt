-- The numbers that stand an odd number of times among ascending ones, kept one after another.
use Rattle.std.proofs.Common.{◌≡◌, ℕ, zero, suc, ◌+◌, ◌-◌, ◌==◌, ◌<◌, ◌≤◌, Bool, true, false, not, List, [], ◌∷◌, ◌++◌, length, get_or, take, refl, ap, ap₂, subst, sym, ◌∙◌, append-nil, arith, length-append}
use Rattle.std.specs.Prelude.{filter, cond, All}
use Rattle.std.specs.List.{range_with_len}
use Rattle.std.specs.List.Sorted.{IsNonDecreasing}
use Rattle.std.proofs.Math.Seq.{get_or-append_seam}
use Rattle.std.proofs.lemmas.Bool.{eq-eqb, ne_eqb}
use Rattle.std.proofs.lemmas.List.{get_or-take, length-take, get_or_default}
use Rattle.std.proofs.lemmas.List.Elements.{All-filter, All-push, All-weaker}
use Rattle.std.proofs.lemmas.List.FromFn.{get_or-range_with_len, length-range_with_len}
use Rattle.pauli_word.specs.Parity.{exclusive_or}
use Rattle.pauli_word.proofs.Parities.{exclusive_or_left_comm}
use Rattle.dem_text.specs.private.Numbered.{odd_below}
use Rattle.step_model.specs.Targets.{is_listed}
use Rattle.step_model.proofs.MemberLemmas.{filter_range_more}

-- ---- a range that is filtered

pub filter-agree : (p q : ℕ → Bool) (k m : ℕ) → ((x : ℕ) → k ≤ x → x < k + m → p x ≡ q x) → filter p (range_with_len k m) ≡ filter q (range_with_len k m)
filter-agree p q k zero same = refl
filter-agree p q k (suc m) same =
    ap (λ b. cond b (k ∷ filter p (range_with_len (k + 1) m)) (filter p (range_with_len (k + 1) m))) (same k (omega arith) (omega arith))
    ∙ ap (λ xs. cond (q k) (k ∷ xs) xs) (filter-agree p q (k + 1) m (λ x a h. same x (omega (arith, a)) (omega (arith, h))))

filter-past : (p : ℕ → Bool) (m k : ℕ) → ((t : ℕ) → m ≤ t → p t ≡ false) → filter p (range_with_len 0 (m + k)) ≡ filter p (range_with_len 0 m)
filter-past p m zero none = let same : m + 0 ≡ m = omega arith in ap (λ n. filter p (range_with_len 0 n)) same
filter-past p m (suc k) none =
    let same : m + suc k ≡ m + k + 1 = omega arith in
    ap (λ n. filter p (range_with_len 0 n)) same
    ∙ filter_range_more p (m + k)
    ∙ ap (λ b. filter p (range_with_len 0 (m + k)) ++ cond b ((m + k) ∷ []) []) (none (m + k) (omega arith))
    ∙ append-nil (filter p (range_with_len 0 (m + k)))
    ∙ filter-past p m k none

pub all-below : (n : ℕ) → All (λ t. t < n) (range_with_len 0 n)
all-below n i d h =
    let within : i < n = omega (arith, h, length-range_with_len 0 n) in
    let here = get_or-range_with_len 0 n i d within in
    omega (arith, here, within)

-- ---- numbers that stand an odd number of times

flipped-push : (t : ℕ) (xs : List ℕ) (x : ℕ) → is_listed (xs ++ x ∷ []) t ≡ exclusive_or (x == t) (is_listed xs t)
flipped-push t [] x = refl
flipped-push t (y ∷ xs) x = ap (exclusive_or (y == t)) (flipped-push t xs x) ∙ exclusive_or_left_comm (y == t) (x == t) (is_listed xs t)

flipped-above : (t : ℕ) (xs : List ℕ) → All (λ m. m < t) xs → is_listed xs t ≡ false
flipped-above t [] h = refl
flipped-above t (x ∷ xs) h =
    ap₂ exclusive_or (ne_eqb x t (λ e. absurd (omega (arith, e, h 0 x (omega arith)))))
    (flipped-above t xs (λ k d below. h (suc k) d (omega (arith, below))))

chosen : (kept kept' q : List ℕ) (x : ℕ) (b : Bool) → kept ≡ q ++ cond b (x ∷ []) [] → All (λ t. t < x) q
    → ((before : List ℕ) → kept ≡ before ++ x ∷ [] → kept' ≡ before) → (All (λ m. m < x) kept → kept' ≡ kept ++ x ∷ [])
    → kept' ≡ q ++ cond (not b) (x ∷ []) []
chosen kept kept' q x true e below there absent = there q e ∙ sym (append-nil q)
chosen kept kept' q x false e below there absent =
    let same = e ∙ append-nil q in
    absent (subst (λ ms. All (λ m. m < x) ms) (sym same) below) ∙ ap (λ ms. ms ++ x ∷ []) same

-- one number more, which none before is above
pub odd-step : (kept kept' p : List ℕ) (x : ℕ) → All (λ m. m ≤ x) p → ((n : ℕ) → All (λ m. m < n) p → kept ≡ odd_below n p)
    → ((before : List ℕ) → kept ≡ before ++ x ∷ [] → kept' ≡ before) → (All (λ m. m < x) kept → kept' ≡ kept ++ x ∷ [])
    → (n : ℕ) → All (λ m. m < n) (p ++ x ∷ []) → kept' ≡ odd_below n (p ++ x ∷ [])
odd-step kept kept' p x low before there absent n high =
    let q = odd_below x p in
    let odd = is_listed p x in
    let under : All (λ m. m < x + 1) p = All-weaker (λ m. m ≤ x) (λ m. m < x + 1) (λ m h. omega (arith, h)) p low in
    let now : kept ≡ q ++ cond odd (x ∷ []) [] = before (x + 1) under ∙ filter_range_more (λ t. is_listed p t) x in
    let same : odd_below x (p ++ x ∷ []) ≡ q =
    filter-agree (λ t. is_listed (p ++ x ∷ []) t) (λ t. is_listed p t) 0 x
    (λ t a h. flipped-push t p x ∙ ap (λ b. exclusive_or b (is_listed p t)) (ne_eqb x t (λ e. absurd (omega (arith, e, h))))) in
    let here : is_listed (p ++ x ∷ []) x ≡ not odd = flipped-push x p x ∙ ap (λ b. exclusive_or b odd) (eq-eqb x x refl) in
    let next : odd_below (x + 1) (p ++ x ∷ []) ≡ q ++ cond (not odd) (x ∷ []) [] =
    filter_range_more (λ t. is_listed (p ++ x ∷ []) t) x ∙ ap₂ (λ xs b. xs ++ cond b (x ∷ []) []) same here in
    let last : x < n =
    subst (λ m. m < n) (get_or-append_seam p x [] 0) (high (length p) 0 (omega (arith, length-append p (x ∷ [])))) in
    let more : n ≡ x + 1 + (n - (x + 1)) = omega (arith, last) in
    let past : odd_below n (p ++ x ∷ []) ≡ odd_below (x + 1) (p ++ x ∷ []) =
    ap (λ m. odd_below m (p ++ x ∷ [])) more
    ∙ filter-past (λ t. is_listed (p ++ x ∷ []) t) (x + 1) (n - (x + 1))
    (λ t a. flipped-above t (p ++ x ∷ [])
    (All-push (λ m. m < t) p x (All-weaker (λ m. m ≤ x) (λ m. m < t) (λ m h. omega (arith, h, a)) p low) (omega (arith, a)))) in
    chosen kept kept' q x odd now (All-filter (λ t. is_listed p t) (λ t. t < x) (range_with_len 0 x) (all-below x)) there absent
    ∙ sym next
    ∙ sym past

-- what stands before a number of ascending ones is no greater
pub none-above : (xs : List ℕ) (i d : ℕ) → IsNonDecreasing xs → i < length xs → All (λ m. m ≤ get_or xs i d) (take i xs)
none-above xs i d up h k e below =
    let early : k < i = omega (arith, below, length-take i xs) in
    let same = get_or-take i xs k e early in
    let le = up k i e (omega (arith, early)) h in
    omega (arith, same, le, get_or_default xs i d e h)

pub none_odd : (low n : ℕ) → filter (λ t. is_listed [] t) (range_with_len low n) ≡ []
none_odd low zero = refl
none_odd low (suc n) = none_odd (low + 1) n

pub odd-none : (n : ℕ) → [] ≡ odd_below n []
odd-none n = sym (none_odd 0 n)
