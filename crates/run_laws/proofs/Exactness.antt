-- The model of a program's hits fits the program, and is exact where no target has a place: its lines stand for the
-- faults that hit something, and by duality the targets that differ are the exclusive sum of what the faults hit.
use Rattle.std.proofs.Common.{◌≡◌, ◌≢◌, ◌<◌, ◌≤◌, ◌+◌, ℕ, zero, suc, Bool, true, false, not, ◌&&◌, cond, eqb, List, [], ◌∷◌, length, get_or, map, None, refl, ap, ap₂, sym, ◌∙◌, arith, eqb-true}
use Rattle.std.proofs.lemmas.Bool.{not-false, and_right}
use Rattle.std.proofs.lemmas.List.Kept.{IsStrictlyIncreasing-filter}
use Rattle.std.proofs.lemmas.List.Elements.{All-from_recursion}
use Rattle.std.specs.List.{range_with_len, list_any, filter, AllByRecursion}
use Rattle.pauli_word.specs.Parity.{exclusive_or}
use Rattle.step_model.specs.ErrorModels.{LinesFit, Fits, is_in_sum, IsExact}
use Rattle.step_model.specs.HitModels.{targets_hit, hitting_faults, error_line_of, model_of}
use Rattle.step_model.specs.Hits.{is_hit}
use Rattle.run_laws.specs.Duality.{odd_hits_among}
use Rattle.step_model.specs.Listing.{Listing}
use Rattle.step_model.specs.Runs.{happens, records_of}
use Rattle.step_model.specs.Sensitivities.{place_of}
use Rattle.step_model.specs.Targets.{targets_of, parity, differences}
use Rattle.step_model.specs.WellFormed.{IsWellFormed}
use Rattle.step_model.proofs.RangeLemmas.{range_rises, among_range}
use Rattle.run_laws.proofs.Duality.{faults_add_up}

-- lists that a test filters

kept : {X : Type 0} (P : X → Type 0) (b : Bool) (x : X) (xs : List X) → P x → AllByRecursion P xs → AllByRecursion P (cond b (x ∷ xs) xs)
kept P true x xs h k = (h, k)
kept P false x xs h k = k

filter_keeps : {X : Type 0} (P : X → Type 0) (p : X → Bool) (xs : List X) → AllByRecursion P xs → AllByRecursion P (filter p xs)
filter_keeps P p [] h = tt
filter_keeps P p (x ∷ xs) h = kept P (p x) x (filter p xs) h.0 (filter_keeps P p xs h.1)

passing : {X : Type 0} (p : X → Bool) (b : Bool) (x : X) (xs : List X) → p x ≡ b → AllByRecursion (λ y. p y ≡ true) xs → AllByRecursion (λ y. p y ≡ true) (cond b (x ∷ xs) xs)
passing p true x xs h k = (h, k)
passing p false x xs h k = k

filter_passes : {X : Type 0} (p : X → Bool) (xs : List X) → AllByRecursion (λ y. p y ≡ true) (filter p xs)
filter_passes p [] = tt
filter_passes p (x ∷ xs) = passing p (p x) x (filter p xs) refl (filter_passes p xs)

range_below : (a n m : ℕ) → a + n ≤ m → AllByRecursion (λ x. x < m) (range_with_len a n)
range_below a zero m h = tt
range_below a (suc n) m h = (omega arith, range_below (a + 1) n m (omega arith))

-- whether a fault hits anything
abbrev hits_some : Listing → ℕ → Bool
hits_some program f = not (eqb (length (targets_hit program f)) 0)

is_hit_among : (program : Listing) (f d : ℕ) → d < length (targets_of program) → list_any (λ u. eqb d u) (targets_hit program f) ≡ is_hit program d f
is_hit_among program f d h = among_range (λ e. is_hit program e f) d 0 (length (targets_of program)) (omega arith) (omega arith)

no_items : {X : Type 0} (xs : List X) → eqb (length xs) 0 ≡ true → xs ≡ []
no_items [] h = refl
no_items (x ∷ xs) h = absurd (omega (arith, eqb-true (suc (length xs)) 0 h))

some_items : {X : Type 0} (xs : List X) → not (eqb (length xs) 0) ≡ true → xs ≢ []
some_items [] h e = cc
some_items (x ∷ xs) h e = cc

-- what hits nothing doesn't hit d
no_hit : (program : Listing) (f d : ℕ) → d < length (targets_of program) → hits_some program f ≡ false → is_hit program d f ≡ false
no_hit program f d h none =
    sym (is_hit_among program f d h)
    ∙ ap (list_any (λ u. eqb d u)) (no_items (targets_hit program f) (not-false (eqb (length (targets_hit program f)) 0) none))

one_more : (program : Listing) (d : ℕ) (happening : List Bool) (f : ℕ) (fs : List ℕ) (b : Bool) → d < length (targets_of program) → hits_some program f ≡ b → exclusive_or (happens happening f && is_hit program d f) (is_in_sum fs (map (error_line_of program) fs) happening d) ≡ is_in_sum (cond b (f ∷ fs) fs) (map (error_line_of program) (cond b (f ∷ fs) fs)) happening d
one_more program d happening f fs true h some =
    ap (λ t. exclusive_or (happens happening f && t) (is_in_sum fs (map (error_line_of program) fs) happening d)) (sym (is_hit_among program f d h))
one_more program d happening f fs false h none =
    ap (λ t. exclusive_or t (is_in_sum fs (map (error_line_of program) fs) happening d))
    (ap (λ t. happens happening f && t) (no_hit program f d h none) ∙ and_right (happens happening f) false refl)

sums_agree : (program : Listing) (d : ℕ) (happening : List Bool) (fs : List ℕ) → d < length (targets_of program) → odd_hits_among program d happening fs ≡ is_in_sum (filter (hits_some program) fs) (map (error_line_of program) (filter (hits_some program) fs)) happening d
sums_agree program d happening [] h = refl
sums_agree program d happening (f ∷ fs) h =
    ap (exclusive_or (happens happening f && is_hit program d f)) (sums_agree program d happening fs h)
    ∙ one_more program d happening f (filter (hits_some program) fs) (hits_some program f) h refl

-- lists of parities

differences-map : {X : Type 0} (f g : X → Bool) (xs : List X) → differences (map f xs) (map g xs) ≡ map (λ x. exclusive_or (f x) (g x)) xs
differences-map f g [] = refl
differences-map f g (x ∷ xs) = ap (λ rest. exclusive_or (f x) (g x) ∷ rest) (differences-map f g xs)

by_index : (h : List ℕ → Bool) (k : ℕ → Bool) (xs : List (List ℕ)) (a : ℕ) → ((i : ℕ) → i < length xs → h (get_or xs i []) ≡ k (a + i)) → map h xs ≡ map k (range_with_len a (length xs))
by_index h k [] a e = refl
by_index h k (x ∷ xs) a e =
    ap₂ (λ y ys. y ∷ ys)
    (e 0 (omega arith) ∙ ap k (omega arith))
    (by_index h k xs (a + 1) (λ i l. e (suc i) (omega arith) ∙ ap k (omega arith)))

pub model_is_exact : (program : Listing) → IsWellFormed program → ((d : ℕ) → d < length (targets_of program) → place_of program d ≡ None) → IsExact program (hitting_faults program) (model_of program)
model_is_exact program well placeless happening first second first_coins second_coins =
    let one = records_of program happening first in
    let other = records_of program [] second in
    differences-map (λ named. parity named one) (λ named. parity named other) (targets_of program)
    ∙ by_index (λ named. exclusive_or (parity named one) (parity named other)) (is_in_sum (hitting_faults program) (model_of program).lines happening) (targets_of program) 0
    (λ d h.
    faults_add_up program d well (placeless d h) happening first second
    ∙ (sums_agree program d happening (range_with_len 0 (length program.faults)) h
    ∙ ap (is_in_sum (hitting_faults program) (model_of program).lines happening) (omega arith)))

-- the lines stand for the faults

lines_fit : (program : Listing) (fs : List ℕ) → AllByRecursion (λ f. f < length program.faults) fs → AllByRecursion (λ f. hits_some program f ≡ true) fs → LinesFit program fs (map (error_line_of program) fs)
lines_fit program [] h k = tt
lines_fit program (f ∷ fs) h k = (
  record {
    in_range = h.0;
    text = refl;
    some = some_items (targets_hit program f) k.0;
    ascending = IsStrictlyIncreasing-filter (λ d. is_hit program d f) (range_with_len 0 (length (targets_of program))) (range_rises 0 (length (targets_of program)));
    targets_in_range =
        All-from_recursion (λ t. t < length (targets_of program)) (targets_hit program f)
        (filter_keeps (λ t. t < length (targets_of program)) (λ d. is_hit program d f) (range_with_len 0 (length (targets_of program))) (range_below 0 (length (targets_of program)) (length (targets_of program)) (omega arith)));
  },
  lines_fit program fs h.1 k.1,
)

pub model_fits : (program : Listing) → Fits program (hitting_faults program) (model_of program)
model_fits program =
    let count = length program.faults in
    record {
      rising = IsStrictlyIncreasing-filter (hits_some program) (range_with_len 0 count) (range_rises 0 count);
      lines =
          lines_fit program (hitting_faults program)
          (filter_keeps (λ f. f < count) (hits_some program) (range_with_len 0 count) (range_below 0 count count (omega arith)))
          (filter_passes (hits_some program) (range_with_len 0 count));
      coordinates = refl;
      detectors = refl;
      observables = refl;
    }
