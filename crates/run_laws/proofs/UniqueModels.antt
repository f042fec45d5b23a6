-- Two models that fit a program and are exact are equal. A set of one fault gives the targets of that fault's line, or
-- none; so going along both lists of faults, which rise, no line can be missing in either.
use Rattle.std.proofs.Common.{◌≡◌, ◌≢◌, ◌<◌, ℕ, ℤ, zero, suc, Bool, true, false, ◌&&◌, ◌||◌, eqb, List, [], ◌∷◌, ◌++◌, length, get_or, replicate, inl, inr, refl, ap, ap₂, sym, ◌∙◌, arith, ne_eqb, eq-eqb, subst}
use Rattle.std.proofs.Math.Dec.{eqb-suc-suc, eqb-suc-zero, eqb-zero-suc}
use Rattle.std.proofs.lemmas.Bool.{cases_eq, cases_lt}
use Rattle.std.proofs.lemmas.List.{length-replicate}
use Rattle.std.proofs.lemmas.List.Elements.{recursion_from_All}
use Rattle.std.proofs.lemmas.List.FromFn.{get_or-map-range_with_len}
use Rattle.std.proofs.lemmas.List.Kept.{AllPairs-from_increasing}
use Rattle.std.specs.List.{list_any, AllByRecursion, AllPairs}
use Rattle.std.specs.List.Sorted.{IsStrictlyIncreasing}
use Rattle.pauli_word.specs.Parity.{exclusive_or}
use Rattle.pauli_word.proofs.Parities.{exclusive_or-false}
use Rattle.step_model.specs.ErrorModels.{ErrorLine, ErrorModel, LineFits, LinesFit, is_in_sum, exclusive_sum, IsExact}
use Rattle.step_model.specs.Listing.{Listing}
use Rattle.step_model.specs.Runs.{happens}
use Rattle.step_model.specs.Targets.{targets_of}
use Rattle.run_laws.specs.UniqueModels.{OneModelLaw}

-- rising lists

abbrev Rising : List ℕ → Type 0
Rising [] = Unit {0}
Rising (x ∷ xs) = AllByRecursion (λ y. x < y) xs × Rising xs

rising_from_pairs : (xs : List ℕ) → AllPairs (λ x y. x < y) xs → Rising xs
rising_from_pairs [] h = tt
rising_from_pairs (x ∷ xs) h = (
  recursion_from_All (λ y. x < y) xs (λ k d inside. h 0 (suc k) d (omega arith) (omega arith)),
  rising_from_pairs xs (λ i j d below inside. h (suc i) (suc j) d (omega arith) (omega arith)),
)

rising : (xs : List ℕ) → IsStrictlyIncreasing xs → Rising xs
rising xs h = rising_from_pairs xs (AllPairs-from_increasing xs h)

all_above : (a b : ℕ) (xs : List ℕ) → a < b → AllByRecursion (λ y. b < y) xs → AllByRecursion (λ y. a < y) xs
all_above a b [] h k = tt
all_above a b (x ∷ xs) h k = (omega (arith, k.0), all_above a b xs h k.1)

-- whether a number is in a list
abbrev is_among : ℕ → List ℕ → Bool
is_among t xs = list_any (λ u. eqb t u) xs

not_among : (t : ℕ) (xs : List ℕ) → AllByRecursion (λ y. t < y) xs → is_among t xs ≡ false
not_among t [] h = refl
not_among t (x ∷ xs) h = ap₂ ◌||◌ (ne_eqb t x (omega (arith, h.0))) (not_among t xs h.1)

first_among : (t : ℕ) (xs : List ℕ) → is_among t (t ∷ xs) ≡ true
first_among t xs = ap (λ b. b || is_among t xs) (eq-eqb t t refl)

later_among : (t x : ℕ) (xs : List ℕ) → t ≢ x → is_among t (x ∷ xs) ≡ is_among t xs
later_among t x xs h = ap (λ b. b || is_among t xs) (ne_eqb t x h)

both_ways : {X : Type 0} (b : Bool) → b ≡ true → b ≡ false → X
both_ways true h k = absurd (let e : true ≡ false = k in cc)
both_ways false h k = absurd (let e : false ≡ true = h in cc)

same_later : (x : ℕ) (xs ys : List ℕ) → AllByRecursion (λ y. x < y) xs → AllByRecursion (λ y. x < y) ys → (t : ℕ) → is_among t (x ∷ xs) ≡ is_among t (x ∷ ys) → is_among t xs ≡ is_among t ys
same_later x xs ys h k t e =
    elim (cases_eq t x) [
      | inl same ↦ subst (λ u. is_among u xs ≡ is_among u ys) (sym same) (not_among x xs h ∙ sym (not_among x ys k))
      | inr other ↦ sym (later_among t x xs other) ∙ e ∙ later_among t x ys other
    ]

-- rising lists of numbers below n that have the same numbers below n are equal
same_numbers : (n : ℕ) (xs ys : List ℕ) → Rising xs → Rising ys → AllByRecursion (λ t. t < n) xs → AllByRecursion (λ t. t < n) ys → ((t : ℕ) → t < n → is_among t xs ≡ is_among t ys) → xs ≡ ys
same_numbers n [] [] r s h k e = refl
same_numbers n [] (y ∷ ys) r s h k e = both_ways (is_among y (y ∷ ys)) (first_among y ys) (sym (e y k.0))
same_numbers n (x ∷ xs) [] r s h k e = both_ways (is_among x (x ∷ xs)) (first_among x xs) (e x h.0)
same_numbers n (x ∷ xs) (y ∷ ys) r s h k e =
    elim (cases_lt x y) [
      | inl below ↦
          both_ways (is_among x (x ∷ xs)) (first_among x xs) (e x h.0 ∙ not_among x (y ∷ ys) (below, all_above x y ys below s.0))
      | inr at_least ↦
          elim (cases_lt y x) [
            | inl below ↦
                both_ways (is_among y (y ∷ ys)) (first_among y ys) (sym (e y k.0) ∙ not_among y (x ∷ xs) (below, all_above y x xs below r.0))
            | inr at_most ↦
                (let same : y ≡ x = omega arith in
                ap₂ (λ z zs. z ∷ zs) (sym same)
                (same_numbers n xs ys r.1 s.1 h.1 k.1
                (λ t inside. same_later x xs ys r.0 (subst (λ z. AllByRecursion (λ u. z < u) ys) same s.0) t
                (e t inside ∙ ap (λ z. is_among t (z ∷ ys)) same))))
          ]
    ]

-- sets of one fault

abbrev alone : ℕ → List Bool
alone f = replicate f false ++ true ∷ []

none_there : (none : List Bool) (g : ℕ) → none ≡ [] → get_or none g false ≡ false
none_there [] g h = refl
none_there (b ∷ none) g h = cc

happens-alone : (f g : ℕ) → happens (alone f) g ≡ eqb g f
happens-alone zero zero = refl
happens-alone zero (suc g) = none_there [] g refl ∙ sym (eqb-suc-zero g)
happens-alone (suc f) zero = sym (eqb-zero-suc f)
happens-alone (suc f) (suc g) = happens-alone f g ∙ sym (eqb-suc-suc g f)

-- the sum for one fault leaves out a line of another
sum_elsewhere : (f t g : ℕ) (numbers : List ℕ) (line : ErrorLine) (lines : List ErrorLine) → g ≢ f → is_in_sum (g ∷ numbers) (line ∷ lines) (alone f) t ≡ is_in_sum numbers lines (alone f) t
sum_elsewhere f t g numbers line lines h =
    ap (λ b. exclusive_or (b && is_among t line.targets) (is_in_sum numbers lines (alone f) t)) (happens-alone f g ∙ ne_eqb g f h)

sum_past : (f t : ℕ) (numbers : List ℕ) (lines : List ErrorLine) → AllByRecursion (λ g. f < g) numbers → is_in_sum numbers lines (alone f) t ≡ false
sum_past f t [] lines h = refl
sum_past f t (g ∷ numbers) [] h = refl
sum_past f t (g ∷ numbers) (line ∷ lines) h =
    sum_elsewhere f t g numbers line lines (omega (arith, h.0)) ∙ sum_past f t numbers lines h.1

-- and is its own line's
sum_here : (f t : ℕ) (numbers : List ℕ) (line : ErrorLine) (lines : List ErrorLine) → AllByRecursion (λ g. f < g) numbers → is_in_sum (f ∷ numbers) (line ∷ lines) (alone f) t ≡ is_among t line.targets
sum_here f t numbers line lines h =
    ap₂ (λ b s. exclusive_or (b && is_among t line.targets) s) (happens-alone f f ∙ eq-eqb f f refl) (sum_past f t numbers lines h)
    ∙ exclusive_or-false (is_among t line.targets)

-- two lists of lines give each fault alone the same targets below n
abbrev Agree : ℕ → List ℕ → List ErrorLine → List ℕ → List ErrorLine → Type 0
Agree n numbers lines numbers' lines' = (f t : ℕ) → t < n → is_in_sum numbers lines (alone f) t ≡ is_in_sum numbers' lines' (alone f) t

targets_below : (program : Listing) (number : ℕ) (line : ErrorLine) → LineFits program number line → AllByRecursion (λ t. t < length (targets_of program)) line.targets
targets_below program number line fits = recursion_from_All (λ t. t < length (targets_of program)) line.targets fits.targets_in_range

-- a line can't be missing in the other list
missing : {X : Type 0} (program : Listing) (f : ℕ) (line : ErrorLine) (targets : List ℕ) (numbers : List ℕ) (lines : List ErrorLine) → line.targets ≡ targets → targets ≢ [] → AllByRecursion (λ t. t < length (targets_of program)) targets → AllByRecursion (λ g. f < g) numbers → (numbers' : List ℕ) (lines' : List ErrorLine) → AllByRecursion (λ g. f < g) numbers' → ((t : ℕ) → t < length (targets_of program) → is_in_sum (f ∷ numbers) (line ∷ lines) (alone f) t ≡ is_in_sum numbers' lines' (alone f) t) → X
missing program f line [] numbers lines is some below above numbers' lines' above' agree = absurd (some refl)
missing program f line (t ∷ targets) numbers lines is some below above numbers' lines' above' agree =
    both_ways (is_among t line.targets)
    (ap (is_among t) is ∙ first_among t targets)
    (sym (sum_here f t numbers line lines above) ∙ agree t below.0 ∙ sum_past f t numbers' lines' above')

abbrev error_line : List ℕ → List ℕ → ErrorLine
error_line text targets = record { text = text; targets = targets }

same_line : (program : Listing) (f : ℕ) (line line' : ErrorLine) → LineFits program f line → LineFits program f line' → ((t : ℕ) → t < length (targets_of program) → is_among t line.targets ≡ is_among t line'.targets) → line ≡ line'
same_line program f line line' fits fits' agree =
    ap₂ error_line (fits.text ∙ sym fits'.text)
    (same_numbers (length (targets_of program)) line.targets line'.targets (rising line.targets fits.ascending) (rising line'.targets fits'.ascending)
    (targets_below program f line fits) (targets_below program f line' fits') agree)

same_rest : (f : ℕ) (line line' : ErrorLine) (numbers numbers' : List ℕ) (lines lines' : List ErrorLine) (n : ℕ) → AllByRecursion (λ g. f < g) numbers → AllByRecursion (λ g. f < g) numbers' → Agree n (f ∷ numbers) (line ∷ lines) (f ∷ numbers') (line' ∷ lines') → Agree n numbers lines numbers' lines'
same_rest f line line' numbers numbers' lines lines' n above above' agree g t inside =
    elim (cases_eq f g) [
      | inl same ↦
          subst (λ h. is_in_sum numbers lines (alone h) t ≡ is_in_sum numbers' lines' (alone h) t) same
          (sum_past f t numbers lines above ∙ sym (sum_past f t numbers' lines' above'))
      | inr other ↦
          sym (sum_elsewhere g t f numbers line lines other) ∙ agree g t inside ∙ sum_elsewhere g t f numbers' line' lines' other
    ]

record SameLines (first second : List ℕ) (those others : List ErrorLine) : Type 0 where
  numbers : first ≡ second
  lines : those ≡ others

one_more : (f : ℕ) (line line' : ErrorLine) (numbers numbers' : List ℕ) (lines lines' : List ErrorLine) → line ≡ line' → SameLines numbers numbers' lines lines' → SameLines (f ∷ numbers) (f ∷ numbers') (line ∷ lines) (line' ∷ lines')
one_more f line line' numbers numbers' lines lines' e rest = record { numbers = ap (λ fs. f ∷ fs) rest.numbers; lines = ap₂ (λ l ls. l ∷ ls) e rest.lines }

same_lines : (program : Listing) (numbers : List ℕ) (lines : List ErrorLine) (numbers' : List ℕ) (lines' : List ErrorLine)
    → Rising numbers → Rising numbers' → LinesFit program numbers lines → LinesFit program numbers' lines'
    → Agree (length (targets_of program)) numbers lines numbers' lines' → SameLines numbers numbers' lines lines'
same_lines program [] [] [] [] r s fits fits' agree = record { numbers = refl; lines = refl }
same_lines program [] (line ∷ lines) numbers' lines' r s fits fits' agree = absurd fits
same_lines program (f ∷ numbers) [] numbers' lines' r s fits fits' agree = absurd fits
same_lines program [] [] [] (line ∷ lines) r s fits fits' agree = absurd fits'
same_lines program [] [] (g ∷ numbers') [] r s fits fits' agree = absurd fits'
same_lines program (f ∷ numbers) (line ∷ lines) [] (line' ∷ lines') r s fits fits' agree = absurd fits'
same_lines program (f ∷ numbers) (line ∷ lines) (g ∷ numbers') [] r s fits fits' agree = absurd fits'
same_lines program [] [] (g ∷ numbers') (line' ∷ lines') r s fits fits' agree =
    missing program g line' line'.targets numbers' lines' refl fits'.0.some (targets_below program g line' fits'.0) s.0 [] [] tt (λ t inside. sym (agree g t inside))
same_lines program (f ∷ numbers) (line ∷ lines) [] [] r s fits fits' agree =
    missing program f line line.targets numbers lines refl fits.0.some (targets_below program f line fits.0) r.0 [] [] tt (λ t inside. agree f t inside)
same_lines program (f ∷ numbers) (line ∷ lines) (g ∷ numbers') (line' ∷ lines') r s fits fits' agree =
    elim (cases_lt f g) [
      | inl below ↦
          missing program f line line.targets numbers lines refl fits.0.some (targets_below program f line fits.0) r.0
          (g ∷ numbers') (line' ∷ lines') (below, all_above f g numbers' below s.0) (λ t inside. agree f t inside)
      | inr at_least ↦
          elim (cases_lt g f) [
            | inl below ↦
                missing program g line' line'.targets numbers' lines' refl fits'.0.some (targets_below program g line' fits'.0) s.0
                (f ∷ numbers) (line ∷ lines) (below, all_above g f numbers below r.0) (λ t inside. sym (agree g t inside))
            | inr at_most ↦
                (let same : g ≡ f = omega arith in
                let above' : AllByRecursion (λ h. f < h) numbers' = subst (λ h. AllByRecursion (λ u. h < u) numbers') same s.0 in
                let agree' : Agree (length (targets_of program)) (f ∷ numbers) (line ∷ lines) (f ∷ numbers') (line' ∷ lines') =
                λ h t inside. agree h t inside ∙ ap (λ x. is_in_sum (x ∷ numbers') (line' ∷ lines') (alone h) t) same in
                subst (λ h. SameLines (f ∷ numbers) (h ∷ numbers') (line ∷ lines) (line' ∷ lines')) (sym same)
                (one_more f line line' numbers numbers' lines lines'
                (same_line program f line line' fits.0 (subst (λ h. LineFits program h line') same fits'.0)
                (λ t inside. sym (sum_here f t numbers line lines r.0) ∙ agree' f t inside ∙ sum_here f t numbers' line' lines' above'))
                (same_lines program numbers lines numbers' lines' r.1 s.1 fits.1 fits'.1
                (same_rest f line line' numbers numbers' lines lines' (length (targets_of program)) r.0 above' agree'))))
          ]
    ]

-- what exact models have in common

agreeing : (program : Listing) (numbers numbers' : List ℕ) (model model' : ErrorModel) → IsExact program numbers model → IsExact program numbers' model' → Agree (length (targets_of program)) numbers model.lines numbers' model'.lines
agreeing program numbers numbers' model model' exact exact' f t inside =
    let n = length (targets_of program) in
    let zeros = replicate program.collapses false in
    let coins : length zeros ≡ program.collapses = length-replicate program.collapses false in
    let sums : exclusive_sum program numbers model (alone f) ≡ exclusive_sum program numbers' model' (alone f) =
    sym (exact (alone f) zeros zeros coins coins) ∙ exact' (alone f) zeros zeros coins coins in
    sym (get_or-map-range_with_len (is_in_sum numbers model.lines (alone f)) 0 n t t false inside (omega arith))
    ∙ ap (λ sum. get_or sum t false) sums
    ∙ get_or-map-range_with_len (is_in_sum numbers' model'.lines (alone f)) 0 n t t false inside (omega arith)

abbrev error_model : List ErrorLine → List (List ℤ) → ℕ → ℕ → ErrorModel
error_model lines coordinates detectors observables =
    record { lines = lines; coordinates = coordinates; detectors = detectors; observables = observables }

pub one_model : OneModelLaw
one_model program numbers numbers' model model' fits exact fits' exact' =
    let same : SameLines numbers numbers' model.lines model'.lines =
    same_lines program numbers model.lines numbers' model'.lines (rising numbers fits.rising) (rising numbers' fits'.rising) fits.lines fits'.lines
    (agreeing program numbers numbers' model model' exact exact') in
    record {
      numbers = same.numbers;
      models =
          ap₂ (λ lines coordinates. error_model lines coordinates model.detectors model.observables) same.lines (fits.coordinates ∙ sym fits'.coordinates)
          ∙ ap₂ (error_model model'.lines model'.coordinates) (fits.detectors ∙ sym fits'.detectors) (fits.observables ∙ sym fits'.observables);
    }
