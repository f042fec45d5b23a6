-- The instructions of a model that can be written mean that model.
use Rattle.std.proofs.Common.{◌≡◌, ℕ, zero, suc, ◌+◌, ◌-◌, ◌==◌, ◌≤◌, ◌<◌, ◌^◌, max, nat_lt, Bool, true, false, not, ◌||◌, ◌&&◌, if◌then◌else◌, ℤ, nat_abs, List, [], ◌∷◌, ◌++◌, map, Result, Ok, refl, ap, ap₂, sym, ◌∙◌, append-nil, inl, inr, arith, All}
use Rattle.std.specs.Prelude.{slice_index_or}
use Rattle.std.specs.Fmt.{signed_decimal}
use Rattle.std.specs.List.{range_with_len}
use Rattle.std.proofs.lemmas.Bool.{cases_Bool, cases_eq, eq-eqb, ltb-false, ltb-true, ne_eqb}
use Rattle.std.proofs.lemmas.List.{ext_get_or, map-append}
use Rattle.std.proofs.lemmas.List.FromFn.{get_or-map-range_with_len, length-map-range_with_len}
use Rattle.step_model.specs.ErrorModels.{ErrorLine, ErrorModel}
use Rattle.step_model.specs.declared.fault.Fault.{Fault}
use Rattle.step_model.specs.WellFormed.{CoordinatesFit}
use Rattle.stim_lexer.specs.Bytes.{is_empty}
use Rattle.stim_parser.specs.Numbers.{whole_value}
use Rattle.error_models.specs.ModelText.{model_text}
use Rattle.dem_text.specs.declared.target.Target.{Target}
use Rattle.dem_text.specs.Meanings.{detector_count, detectors_to, error_line, error_lines, gives_coordinates, last_coordinates, meaning_of, observable_count, observables_to, numbered}
use Rattle.stim_lexer.specs.Reached.{greatest_by}
use Rattle.dem_text.specs.Models.{model_in}
use Rattle.dem_text.specs.private.Numbered.{odd_below, numbers_of}
use Rattle.dem_text.specs.Shifts.{Placed}
use Rattle.dem_text.proofs.ChainLemmas.{placed}
use Rattle.dem_text.specs.Writable.{IsWritable, IsWritableLine}
use Rattle.dem_text.proofs.AscendingLemmas.{odd_below-ascending}
use Rattle.dem_text.proofs.ModelInstructions.{detector_instruction, detector_instructions, error_instruction, error_instructions, instructions_of, instructions_text, observable_instruction, observable_instructions, target_of_number}
use Rattle.stim_parser.proofs.NumberLemmas.{signed_decimal_is_whole}
use Rattle.dem_text.proofs.StandLemmas.{instructions_stand}
use Rattle.dem_text.proofs.TextReadLemmas.{greatest_over, text_means}
use Rattle.dem_text.proofs.BuildLemmas.{error_lines-append}
use Rattle.dem_text.proofs.ShiftLemmas.{moved-none}

-- ---- lines of each kind

abbrev errors_placed : ℕ → List ErrorLine → List Placed
errors_placed detectors lines = map placed (map (error_instruction detectors) lines)

abbrev detectors_placed : List (List ℤ) → List ℕ → List Placed
detectors_placed coordinates ds = map placed (map (detector_instruction coordinates) ds)

abbrev observables_placed : List ℕ → List Placed
observables_placed ks = map placed (map observable_instruction ks)

-- ---- how many detectors and observables

greatest-append : (count : Target → ℕ) (xs ys : List Placed) → greatest_over count (xs ++ ys) ≡ max (greatest_over count xs) (greatest_over count ys)
greatest-append count [] ys = omega arith
greatest-append count (p ∷ xs) ys = let rest = greatest-append count xs ys in omega (arith, rest)

targets_reach : (detectors : ℕ) (targets : List ℕ) → greatest_by detectors_to (map (target_of_number detectors) targets) ≤ detectors
targets_reach detectors [] = omega arith
targets_reach detectors (t ∷ targets) =
    let rest = targets_reach detectors targets in
    elim (cases_Bool (nat_lt t detectors)) [
      | inl e ↦ let below = ltb-true t detectors e in rw e (omega (arith, below, rest))
      | inr e ↦ rw e (omega (arith, rest))
    ]

targets_reach_observables : (detectors observables : ℕ) (targets : List ℕ) → All (λ t. t < detectors + observables) targets → greatest_by observables_to (map (target_of_number detectors) targets) ≤ observables
targets_reach_observables detectors observables [] h = omega arith
targets_reach_observables detectors observables (t ∷ targets) h =
    let here = h 0 t (omega arith) in
    let rest = targets_reach_observables detectors observables targets (λ k d below. h (suc k) d (omega (arith, below))) in
    elim (cases_Bool (nat_lt t detectors)) [
      | inl e ↦ rw e (omega (arith, rest))
      | inr e ↦ let above = ltb-false t detectors e in rw e (omega (arith, above, here, rest))
    ]

errors_reach : (detectors : ℕ) (lines : List ErrorLine) → greatest_over detectors_to (errors_placed detectors lines) ≤ detectors
errors_reach detectors [] = omega arith
errors_reach detectors (line ∷ lines) =
    let here = targets_reach detectors line.targets in let rest = errors_reach detectors lines in omega (arith, here, rest)

errors_reach_observables : (detectors observables : ℕ) (lines : List ErrorLine) → All (IsWritableLine (detectors + observables)) lines → greatest_over observables_to (errors_placed detectors lines) ≤ observables
errors_reach_observables detectors observables [] h = omega arith
errors_reach_observables detectors observables (line ∷ lines) h =
    let here = targets_reach_observables detectors observables line.targets (h 0 line (omega arith)).in_range in
    let rest = errors_reach_observables detectors observables lines (λ k d below. h (suc k) d (omega (arith, below))) in omega (arith, here, rest)

detectors_reach : (coordinates : List (List ℤ)) (k n : ℕ) → max k (greatest_over detectors_to (detectors_placed coordinates (range_with_len k n))) ≡ k + n
detectors_reach coordinates k zero = omega arith
detectors_reach coordinates k (suc n) = let rest = detectors_reach coordinates (k + 1) n in omega (arith, rest)

detectors_reach_none : (coordinates : List (List ℤ)) (ds : List ℕ) → greatest_over observables_to (detectors_placed coordinates ds) ≡ 0
detectors_reach_none coordinates [] = refl
detectors_reach_none coordinates (d ∷ ds) = let rest = detectors_reach_none coordinates ds in omega (arith, rest)

observables_reach : (k n : ℕ) → max k (greatest_over observables_to (observables_placed (range_with_len k n))) ≡ k + n
observables_reach k zero = omega arith
observables_reach k (suc n) = let rest = observables_reach (k + 1) n in omega (arith, rest)

observables_reach_none : (ks : List ℕ) → greatest_over detectors_to (observables_placed ks) ≡ 0
observables_reach_none [] = refl
observables_reach_none (k ∷ ks) = let rest = observables_reach_none ks in omega (arith, rest)

-- ---- error lines

one_number : (detectors t : ℕ) → numbered detectors (target_of_number detectors t) ≡ t ∷ []
one_number detectors t =
    elim (cases_Bool (nat_lt t detectors)) [
      | inl e ↦ rw e refl
      | inr e ↦
          let above = ltb-false t detectors e in
          let same : detectors + (t - detectors) ≡ t = omega (arith, above) in rw e (ap (λ n. n ∷ []) same)
    ]

numbers_found : (detectors : ℕ) (targets : List ℕ) → numbers_of detectors (map (target_of_number detectors) targets) ≡ targets
numbers_found detectors [] = refl
numbers_found detectors (t ∷ targets) = ap₂ (λ (xs ys : List ℕ). xs ++ ys) (one_number detectors t) (numbers_found detectors targets)

line_found : (detectors observables : ℕ) (line : ErrorLine) → IsWritableLine (detectors + observables) line → error_line detectors observables (placed (error_instruction detectors line)) ≡ line
line_found detectors observables line h =
    ap (λ (targets : List ℕ). record { text = line.text; targets = targets })
    (ap (odd_below (detectors + observables)) (numbers_found detectors line.targets)
    ∙ odd_below-ascending (detectors + observables) line.targets h.ascending h.in_range)

lines_found : (detectors observables : ℕ) (lines : List ErrorLine) → All (IsWritableLine (detectors + observables)) lines → error_lines detectors observables (errors_placed detectors lines) ≡ lines
lines_found detectors observables [] h = refl
lines_found detectors observables (line ∷ lines) h =
    ap₂ (λ (l : ErrorLine) (ls : List ErrorLine). l ∷ ls) (line_found detectors observables line (h 0 line (omega arith)))
    (lines_found detectors observables lines (λ k d below. h (suc k) d (omega (arith, below))))

no_error_detects : (detectors observables : ℕ) (coordinates : List (List ℤ)) (ds : List ℕ) → error_lines detectors observables (detectors_placed coordinates ds) ≡ []
no_error_detects detectors observables coordinates [] = refl
no_error_detects detectors observables coordinates (d ∷ ds) = no_error_detects detectors observables coordinates ds

no_error_observes : (detectors observables : ℕ) (ks : List ℕ) → error_lines detectors observables (observables_placed ks) ≡ []
no_error_observes detectors observables [] = refl
no_error_observes detectors observables (k ∷ ks) = no_error_observes detectors observables ks

-- ---- coordinates

last-append : (d : ℕ) (found : List ℤ) (xs ys : List Placed) → last_coordinates d found (xs ++ ys) ≡ last_coordinates d (last_coordinates d found xs) ys
unfolding last_coordinates
last-append d found [] ys = refl
last-append d found (p ∷ xs) ys = last-append d (if gives_coordinates d p then p.coordinates else found) xs ys

errors_give_none : (d : ℕ) (found : List ℤ) (detectors : ℕ) (lines : List ErrorLine) → last_coordinates d found (errors_placed detectors lines) ≡ found
unfolding last_coordinates
errors_give_none d found detectors [] = refl
errors_give_none d found detectors (line ∷ lines) = errors_give_none d found detectors lines

observables_give_none : (d : ℕ) (found : List ℤ) (ks : List ℕ) → last_coordinates d found (observables_placed ks) ≡ found
unfolding last_coordinates
observables_give_none d found [] = refl
observables_give_none d found (k ∷ ks) = observables_give_none d found ks

values_found : (coordinates : List ℤ) → All (λ c. nat_abs c < 10 ^ 18) coordinates → map whole_value (map signed_decimal coordinates) ≡ coordinates
values_found [] h = refl
values_found (c ∷ coordinates) h =
    ap₂ (λ (x : ℤ) (xs : List ℤ). x ∷ xs) (signed_decimal_is_whole c (h 0 c (omega arith))).value
    (values_found coordinates (λ k d below. h (suc k) d (omega (arith, below))))

coordinates_said : (coordinates : List (List ℤ)) (k : ℕ) → CoordinatesFit (slice_index_or coordinates k []) → (placed (detector_instruction coordinates k)).coordinates ≡ slice_index_or coordinates k []
coordinates_said coordinates k fit =
    moved-none (map whole_value (map signed_decimal (slice_index_or coordinates k []))) ∙ values_found (slice_index_or coordinates k []) fit.within

-- a line's coordinates where it names the detector, and what was found where it doesn't
taken : (b : Bool) (xs : List ℤ) → b ≡ true → (if not (is_empty xs) && (b || false) then xs else []) ≡ xs
taken b [] h = refl
taken b (x ∷ xs) h = rw h refl

passed : (b : Bool) (xs found : List ℤ) → b ≡ false → (if not (is_empty xs) && (b || false) then xs else found) ≡ found
passed b [] found h = refl
passed b (x ∷ xs) found h = rw h refl

others_give_none : (d : ℕ) (found : List ℤ) (coordinates : List (List ℤ)) (k n : ℕ) → d < k → last_coordinates d found (detectors_placed coordinates (range_with_len k n)) ≡ found
unfolding last_coordinates
others_give_none d found coordinates k zero h = refl
others_give_none d found coordinates k (suc n) h =
    let other : (k + 1 == d + 1) ≡ false = ne_eqb (k + 1) (d + 1) (λ e. absurd (omega (arith, e, h))) in
    ap (λ (now : List ℤ). last_coordinates d now (detectors_placed coordinates (range_with_len (k + 1) n))) (passed (k + 1 == d + 1) (placed (detector_instruction coordinates k)).coordinates found other)
    ∙ others_give_none d found coordinates (k + 1) n (omega (arith, h))

detector_gives : (d : ℕ) (coordinates : List (List ℤ)) (k n : ℕ) → k ≤ d → d < k + n → CoordinatesFit (slice_index_or coordinates d []) → last_coordinates d [] (detectors_placed coordinates (range_with_len k n)) ≡ slice_index_or coordinates d []
unfolding last_coordinates
detector_gives d coordinates k zero low high fit = absurd (omega (arith, low, high))
detector_gives d coordinates k (suc n) low high fit =
    elim (cases_eq d k) [
      | inl e ↦
          ap (λ (now : List ℤ). last_coordinates d now (detectors_placed coordinates (range_with_len (k + 1) n))) (taken (k + 1 == d + 1) (placed (detector_instruction coordinates k)).coordinates (eq-eqb (k + 1) (d + 1) (omega (arith, e))))
          ∙ others_give_none d (placed (detector_instruction coordinates k)).coordinates coordinates (k + 1) n (omega (arith, e))
          ∙ ap (λ (m : ℕ). (placed (detector_instruction coordinates m)).coordinates) (sym e)
          ∙ coordinates_said coordinates d fit
      | inr differ ↦
          ap (λ (now : List ℤ). last_coordinates d now (detectors_placed coordinates (range_with_len (k + 1) n))) (passed (k + 1 == d + 1) (placed (detector_instruction coordinates k)).coordinates [] (ne_eqb (k + 1) (d + 1) (λ n. differ (omega (arith, n)))))
          ∙ detector_gives d coordinates (k + 1) n (omega (arith, low, differ)) (omega (arith, high)) fit
    ]

-- ---- the model

-- lines with these counts, errors and coordinates mean the model
same_model : (lines : List Placed) (model : ErrorModel) → detector_count lines ≡ model.detectors → observable_count lines ≡ model.observables
    → error_lines model.detectors model.observables lines ≡ model.lines → map (λ d. last_coordinates d [] lines) (range_with_len 0 model.detectors) ≡ model.coordinates → meaning_of lines ≡ model
same_model lines model detectors observables errors coordinates = rw (detectors, observables, errors, coordinates) refl

abbrev errors_of : ErrorModel → List Placed
errors_of model = errors_placed model.detectors model.lines

abbrev detectors_of : ErrorModel → List Placed
detectors_of model = detectors_placed model.coordinates (range_with_len 0 model.detectors)

abbrev observables_of : ErrorModel → List Placed
observables_of model = observables_placed (range_with_len 0 model.observables)

abbrev all_of : ErrorModel → List Placed
all_of model = errors_of model ++ (detectors_of model ++ observables_of model)

all_placed : (model : ErrorModel) → map placed (instructions_of model) ≡ all_of model
all_placed model =
    rw (map-append placed (error_instructions model) _, map-append placed (detector_instructions model) (observable_instructions model)) refl

greatest_of_all : (count : Target → ℕ) (model : ErrorModel)
    → greatest_over count (all_of model) ≡ max (greatest_over count (errors_of model)) (max (greatest_over count (detectors_of model)) (greatest_over count (observables_of model)))
greatest_of_all count model =
    rw (greatest-append count (errors_of model) _, greatest-append count (detectors_of model) (observables_of model)) refl

detectors_counted : (model : ErrorModel) → detector_count (all_of model) ≡ model.detectors
detectors_counted model =
    let all = greatest_of_all detectors_to model in
    let errors = errors_reach model.detectors model.lines in
    let detectors = detectors_reach model.coordinates 0 model.detectors in
    let observables = observables_reach_none (range_with_len 0 model.observables) in
    omega (arith, all, errors, detectors, observables)

observables_counted : (model : ErrorModel) → IsWritable model → observable_count (all_of model) ≡ model.observables
observables_counted model h =
    let all = greatest_of_all observables_to model in
    let errors = errors_reach_observables model.detectors model.observables model.lines h.lines in
    let detectors = detectors_reach_none model.coordinates (range_with_len 0 model.detectors) in
    let observables = observables_reach 0 model.observables in
    omega (arith, all, errors, detectors, observables)

errors_found : (model : ErrorModel) → IsWritable model → error_lines model.detectors model.observables (all_of model) ≡ model.lines
errors_found model h =
    let detectors = model.detectors in
    let observables = model.observables in
    rw (error_lines-append detectors observables (errors_of model) _, error_lines-append detectors observables (detectors_of model) (observables_of model), lines_found detectors observables model.lines h.lines, no_error_detects detectors observables model.coordinates (range_with_len 0 detectors), no_error_observes detectors observables (range_with_len 0 observables))
    (append-nil model.lines)

coordinates_of : (model : ErrorModel) (d : ℕ) → IsWritable model → d < model.detectors → last_coordinates d [] (all_of model) ≡ slice_index_or model.coordinates d []
coordinates_of model d h below =
    let given = h.coordinates_given in
    rw (last-append d [] (errors_of model) _, errors_give_none d [] model.detectors model.lines, last-append d [] (detectors_of model) (observables_of model), observables_give_none d _ (range_with_len 0 model.observables))
    (detector_gives d model.coordinates 0 model.detectors (omega arith) (omega (arith, below)) (h.coordinates_fit d [] (omega (arith, given, below))))

all_coordinates : (model : ErrorModel) → IsWritable model → map (λ d. last_coordinates d [] (all_of model)) (range_with_len 0 model.detectors) ≡ model.coordinates
all_coordinates model h =
    let f : ℕ → List ℤ = λ d. last_coordinates d [] (all_of model) in
    let long = length-map-range_with_len f 0 model.detectors in
    ext_get_or [] _ _ (long ∙ sym h.coordinates_given)
    (λ d below.
    let here : d < model.detectors = omega (arith, below, long) in
    get_or-map-range_with_len f 0 model.detectors d d [] here (omega arith) ∙ coordinates_of model d h here)

instructions_mean : (model : ErrorModel) → IsWritable model → meaning_of (map placed (instructions_of model)) ≡ model
instructions_mean model h =
    ap meaning_of (all_placed model)
    ∙ same_model (all_of model) model (detectors_counted model) (observables_counted model h) (errors_found model h) (all_coordinates model h)

pub reads_back : (model : ErrorModel) → IsWritable model → model_in (model_text model) ≡ Ok model
reads_back model h =
    ap model_in (sym (instructions_text model)) ∙ text_means (instructions_of model) (instructions_stand model h) ∙ ap Ok (instructions_mean model h)

pub one_model : (first second : ErrorModel) → IsWritable first → IsWritable second → model_text first ≡ model_text second → first ≡ second
one_model first second h k same =
    let both : ◌≡◌ {A = Result ErrorModel Fault} (Ok first) (Ok second) = sym (reads_back first h) ∙ ap model_in same ∙ reads_back second k in cc
