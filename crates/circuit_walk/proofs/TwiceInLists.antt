-- A list with others in it one behind another, and elements that come again so many places later.
use Rattle.std.proofs.Common.{◌≡◌, ℕ, zero, suc, ◌+◌, ◌<◌, ◌≤◌, List, [], ◌∷◌, ◌++◌, length, map, Some, option_map, refl, sym, ap, subst, ◌∙◌, arith}
use Rattle.std.specs.Prelude.{All, slice_get}
use Rattle.std.specs.List.{flat_map, range_with_len}
use Rattle.std.proofs.lemmas.List.Elements.{All-cons, All-head, All-nil, All-tail, All-weaker}
use Rattle.std.proofs.lemmas.Option.{slice_get-map}

pub get_behind : {X : Type 0} (xs ys : List X) (k : ℕ) → slice_get (xs ++ ys) (length xs + k) ≡ slice_get ys k
get_behind [] ys k = let e : 0 + k ≡ k = omega arith in ap (slice_get ys) e
get_behind (x ∷ xs) ys k =
    let e : length (x ∷ xs) + k ≡ suc (length xs + k) = omega arith in
    ap (slice_get (x ∷ xs ++ ys)) e ∙ get_behind xs ys k

pub get_first : {X : Type 0} (xs ys : List X) (k : ℕ) → k < length xs → slice_get (xs ++ ys) k ≡ slice_get xs k
get_first [] ys k lt = absurd (omega (arith, lt))
get_first (x ∷ xs) ys zero lt = refl
get_first (x ∷ xs) ys (suc k) lt = get_first xs ys k (omega (arith, lt))

-- an element of a list that stands in another
pub get_within : {X : Type 0} (all front xs rest : List X) (k : ℕ) → all ≡ front ++ (xs ++ rest) → k < length xs → slice_get all (length front + k) ≡ slice_get xs k
get_within {X} all front xs rest k is lt =
    ap (λ (ys : List X). slice_get ys (length front + k)) is ∙ (get_behind front (xs ++ rest) k ∙ get_first xs rest k lt)

-- a list stands in another, and again, changed, behind so many more
pub twice : {X : Type 0} (change : X → X) (all front xs rest first more : List X) → all ≡ front ++ (xs ++ rest) → all ≡ front ++ (first ++ (map change xs ++ more)) → length (map change xs) ≡ length xs → (k : ℕ) → k < length xs → slice_get all (length front + k + length first) ≡ option_map change (slice_get all (length front + k))
twice {X} change all front xs rest first more once again same k lt =
    let place : length front + k + length first ≡ length front + (length first + k) = omega arith in
    ap (slice_get all) place
    ∙ (ap (λ (ys : List X). slice_get ys (length front + (length first + k))) again
    ∙ (get_behind front (first ++ (map change xs ++ more)) (length first + k)
    ∙ (get_behind first (map change xs ++ more) k
    ∙ (get_first (map change xs) more k (omega (arith, same, lt))
    ∙ (slice_get-map change xs k ∙ ap (option_map change) (sym (get_within all front xs rest k once lt)))))))

-- ---- all of a list

pub all_first : {X : Type 0} (P : X → Type 0) (xs ys : List X) → All P (xs ++ ys) → All P xs
all_first P [] ys h = All-nil P
all_first P (x ∷ xs) ys h = All-cons P x xs (All-head P x (xs ++ ys) h) (all_first P xs ys (All-tail P x (xs ++ ys) h))

pub all_behind : {X : Type 0} (P : X → Type 0) (xs ys : List X) → All P (xs ++ ys) → All P ys
all_behind P [] ys h = h
all_behind P (x ∷ xs) ys h = all_behind P xs ys (All-tail P x (xs ++ ys) h)

-- of what an element is taken to
pub all_of_one : {X Y : Type 0} (P : Y → Type 0) (f : X → List Y) (xs : List X) (k : ℕ) (x : X) → All P (flat_map f xs) → slice_get xs k ≡ Some x → All P (f x)
all_of_one P f [] k x h got = cc
all_of_one {X} P f (y ∷ ys) zero x h got =
    let same : y ≡ x = cc in subst (λ (z : X). All P (f z)) same (all_first P (f y) (flat_map f ys) h)
all_of_one P f (y ∷ ys) (suc k) x h got = all_of_one P f ys k x (all_behind P (f y) (flat_map f ys) h) got

-- numbers one after another
pub all_in_range : (first count : ℕ) → All (λ k. (first ≤ k) × (k < first + count)) (range_with_len first count)
all_in_range first zero = All-nil (λ k. (first ≤ k) × (k < first + 0))
all_in_range first (suc count) =
    All-cons (λ k. (first ≤ k) × (k < first + suc count)) first (range_with_len (first + 1) count) (omega arith, omega arith)
    (All-weaker (λ k. (first + 1 ≤ k) × (k < first + 1 + count)) (λ k. (first ≤ k) × (k < first + suc count))
    (λ k h. (omega (arith, h.0), omega (arith, h.1))) (range_with_len (first + 1) count) (all_in_range (first + 1) count))
