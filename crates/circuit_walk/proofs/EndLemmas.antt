-- Where the steps of an instruction end: the last place is behind all of them, and each place before it is before one.
use Rattle.std.proofs.Common.{◌≡◌, ◌≢◌, ◌≤◌, ◌<◌, ◌*◌, ◌%◌, ◌==◌, ◌⊎◌, inl, inr, ℕ, zero, suc, Bool, true, false, if◌then◌else◌, List, [], ◌∷◌, length, map, refl, sym, ap, ◌∙◌, subst, arith}
use Rattle.std.specs.Prelude.{take}
use Rattle.std.proofs.lemmas.Bool.{cases_lt, eqb-false, eqb-true}
use Rattle.std.proofs.lemmas.List.{length-map}
use Rattle.gate_table.specs.declared.gate.Gate.{Gate}
use Rattle.gate_table.specs.Images.{arity_of}
use Rattle.step_model.specs.Listing.{One}
use Rattle.stim_parser.specs.declared.operation.Operation.{Operation}
use Rattle.stim_parser.specs.declared.operation.Operation.TheVariants as operation
use Rattle.stim_parser.specs.declared.table.Keyword.TheVariants.{Does}
use Rattle.stim_parser.specs.declared.target.Target.{Target}
use Rattle.stim_parser.specs.Circuits.{Fits}
use Rattle.stim_parser.specs.Instructions.{gate_targets, target_form}
use Rattle.stim_parser.specs.Limits.{are_of_form, are_products, has_wrong_count, products_of, qubit_of}
use Rattle.stim_parser.specs.Verdicts.{Instruction}
use Rattle.circuit_walk.specs.Before.{Before}
use Rattle.circuit_walk.specs.Meaning.{new_steps}
use Rattle.circuit_walk.specs.StepsMade.{gate_made, operation_made, pairs_made}
use Rattle.circuit_walk.specs.private.InstructionSteps.{IsAt, end_of, product_words, words_length}
use Rattle.circuit_walk.proofs.CountLemmas.{length-numbered}
use Rattle.circuit_walk.proofs.ProductPlaces.{place_below, place_later, place_within, places_end, places_within}
use Rattle.circuit_walk.proofs.ProductWords.{words_number}
use Rattle.circuit_walk.proofs.StandLemmas.{even_count, products_of_form, two_of}

-- an operation with these targets makes so many steps
pub record Ends (operation : Operation) (ts : List Target) (count : ℕ) : Type 0 where
  pub start : IsAt operation ts 0 0
  pub end : IsAt operation ts (end_of operation ts) count
  pub inside : (at k : ℕ) → IsAt operation ts at k → at < end_of operation ts → k < count
  pub over : (at k : ℕ) → IsAt operation ts at k → at ≡ end_of operation ts → k ≡ count
  pub first : (at k : ℕ) → IsAt operation ts at k → at ≡ 0 → k ≡ 0
  pub within : (at k : ℕ) → IsAt operation ts at k → at ≤ end_of operation ts
  pub few : (at k : ℕ) → IsAt operation ts at k → k ≤ count
  pub zero_at : (at : ℕ) → IsAt operation ts at 0 → at ≡ 0

length-pairs : (n r : ℕ) (g : Gate) (ts : List Target) → length ts % 2 ≢ 1 → 2 * length (pairs_made n r g ts) ≡ length ts
length-pairs n r g [] odd = refl
length-pairs n r g (a ∷ []) odd = absurd (odd refl)
length-pairs n r g (a ∷ b ∷ ts) odd =
    let fewer : length ts % 2 ≢ 1 = λ e. odd (omega (arith, e)) in
    omega (arith, length-pairs n r g ts fewer)

length-gate : (n r : ℕ) (g : Gate) (ts : List Target) → has_wrong_count (gate_targets g) ts ≡ false → arity_of g * length (gate_made n r g ts) ≡ length ts
length-gate n r g ts count = by_arity (arity_of g == 1) refl
  where
    by_arity : (one : Bool) → (arity_of g == 1) ≡ one → arity_of g * length (if arity_of g == 1 then map (λ target. One g (qubit_of target)) ts else pairs_made n r g ts) ≡ length ts
    by_arity true h =
        let counted = length-map ts (λ (target : Target). One g (qubit_of target)) in
        let e : length (if arity_of g == 1 then map (λ target. One g (qubit_of target)) ts else pairs_made n r g ts) ≡ length ts =
        ap (λ (one : Bool). length (if one then map (λ target. One g (qubit_of target)) ts else pairs_made n r g ts)) h ∙ counted in
        ap (λ m. m * length (if arity_of g == 1 then map (λ target. One g (qubit_of target)) ts else pairs_made n r g ts)) (eqb-true (arity_of g) 1 h) ∙ omega (arith, e)
    by_arity false h =
        let e : length (if arity_of g == 1 then map (λ target. One g (qubit_of target)) ts else pairs_made n r g ts) ≡ length (pairs_made n r g ts) =
        ap (λ (one : Bool). length (if one then map (λ target. One g (qubit_of target)) ts else pairs_made n r g ts)) h in
        ap (λ m. m * length (if arity_of g == 1 then map (λ target. One g (qubit_of target)) ts else pairs_made n r g ts)) (two_of g h)
        ∙ omega (arith, e, length-pairs n r g ts (eqb-false (length ts % 2) 1 (even_count g ts h count)))

-- a gate has one target a step, or two
less_of : (g : Gate) (k m : ℕ) → arity_of g * k < arity_of g * m → k < m
less_of g k m h = by_arity (arity_of g == 1) refl
  where
    by_arity : (one : Bool) → (arity_of g == 1) ≡ one → k < m
    by_arity true e = omega (arith, subst (λ a. a * k < a * m) (eqb-true (arity_of g) 1 e) h)
    by_arity false e = omega (arith, subst (λ a. a * k < a * m) (two_of g e) h)

not_more : (g : Gate) (k m : ℕ) → arity_of g * k ≤ arity_of g * m → k ≤ m
not_more g k m h = by_arity (arity_of g == 1) refl
  where
    by_arity : (one : Bool) → (arity_of g == 1) ≡ one → k ≤ m
    by_arity true e = omega (arith, subst (λ a. a * k ≤ a * m) (eqb-true (arity_of g) 1 e) h)
    by_arity false e = omega (arith, subst (λ a. a * k ≤ a * m) (two_of g e) h)

pub same_of : (g : Gate) (k m : ℕ) → arity_of g * k ≡ arity_of g * m → k ≡ m
same_of g k m h = by_arity (arity_of g == 1) refl
  where
    by_arity : (one : Bool) → (arity_of g == 1) ≡ one → k ≡ m
    by_arity true e = omega (arith, subst (λ a. a * k ≡ a * m) (eqb-true (arity_of g) 1 e) h)
    by_arity false e = omega (arith, subst (λ a. a * k ≡ a * m) (two_of g e) h)

ends_gate : (n : ℕ) (b : Before) (g : Gate) (arguments : List (List ℕ)) (ts : List Target) → has_wrong_count (gate_targets g) ts ≡ false → Ends (operation.Applies g) ts (length (gate_made n b.records g ts))
ends_gate n b g arguments ts count =
    let whole = length-gate n b.records g ts count in
    record {
      start = (omega arith, omega arith);
      end = (sym whole, omega arith);
      inside = λ at k place lt. less_of g k (length (gate_made n b.records g ts)) (omega (arith, place.0, whole, lt));
      over = λ at k place e. same_of g k (length (gate_made n b.records g ts)) (sym place.0 ∙ e ∙ sym whole);
      first = λ at k place e. same_of g k 0 (sym place.0 ∙ (e ∙ omega arith));
      within = λ at k place. place.1;
      few = λ at k place. not_more g k (length (gate_made n b.records g ts)) (omega (arith, place.0, place.1, whole));
      zero_at = λ at place. omega (arith, place.0);
    }

-- one step a target
ends_singles : (operation : Operation) (ts : List Target) (count : ℕ) → ((at k : ℕ) → IsAt operation ts at k ≡ ((at ≡ k) × (k ≤ end_of operation ts))) → count ≡ end_of operation ts → Ends operation ts count
ends_singles operation ts count is e =
    record {
      start = subst (λ (T : Type 0). T) (sym (is 0 0)) (refl, omega arith);
      end = subst (λ (T : Type 0). T) (sym (is (end_of operation ts) count)) (sym e, omega (arith, e));
      inside = λ at k place lt. let p = subst (λ (T : Type 0). T) (is at k) place in omega (arith, p.0, lt, e);
      over = λ at k place same. let p = subst (λ (T : Type 0). T) (is at k) place in omega (arith, p.0, same, e);
      first = λ at k place zero. let p = subst (λ (T : Type 0). T) (is at k) place in omega (arith, p.0, zero);
      within = λ at k place. let p = subst (λ (T : Type 0). T) (is at k) place in omega (arith, p.0, p.1);
      few = λ at k place. let p = subst (λ (T : Type 0). T) (is at k) place in omega (arith, p.1, e);
      zero_at = λ at place. let p = subst (λ (T : Type 0). T) (is at 0) place in p.0;
    }

ends_products : (n : ℕ) (b : Before) (arguments : List (List ℕ)) (ts : List Target) → are_products ts ≡ true → Ends operation.ProductMeasurement ts (length (operation_made n b operation.ProductMeasurement arguments ts))
ends_products n b arguments ts form =
    let words = product_words ts in
    let count : length (operation_made n b operation.ProductMeasurement arguments ts) ≡ length words =
    length-numbered 0 _ (products_of ts) ∙ sym (words_number ts) in
    record {
      start = (refl, omega arith);
      end = (sym (places_end ts (length (operation_made n b operation.ProductMeasurement arguments ts)) (omega (arith, count))), omega (arith, count));
      inside = λ at k place lt. omega (arith, count, place_within ts k (omega (arith, place.0, lt)));
      over = λ at k place e. by_order at k place e count (cases_lt k (length words));
      first = λ at k place e. none_before k (omega (arith, place.0, e)) place.1;
      within = λ at k place. omega (arith, place.0, places_within ts k);
      few = λ at k place. omega (arith, place.1, count);
      zero_at = λ at place. place.0;
    }
  where
    none_before : (k : ℕ) → words_length (take k (product_words ts)) ≡ 0 → k ≤ length (product_words ts) → k ≡ 0
    none_before zero e le = refl
    none_before (suc k) e le = absurd (omega (arith, e, place_later ts k form (omega (arith, le))))

    by_order : (at k : ℕ) → IsAt operation.ProductMeasurement ts at k → at ≡ length ts → length (operation_made n b operation.ProductMeasurement arguments ts) ≡ length (product_words ts) → (k < length (product_words ts)) ⊎ (length (product_words ts) ≤ k) → k ≡ length (operation_made n b operation.ProductMeasurement arguments ts)
    by_order at k place e count (inl lt) = absurd (omega (arith, place.0, e, place_below ts k form lt))
    by_order at k place e count (inr le) = omega (arith, count, place.1, le)

ends_of : (n : ℕ) (b : Before) (o : Operation) (arguments : List (List ℕ)) (ts : List Target) → are_of_form (target_form (Does o)) ts ≡ true → has_wrong_count (target_form (Does o)) ts ≡ false → Ends o ts (length (operation_made n b o arguments ts))
ends_of n b (operation.Applies g) arguments ts form count = ends_gate n b g arguments ts count
ends_of n b (operation.Measurement l) arguments ts form count = ends_singles _ ts _ (λ at k. refl) (length-numbered 0 _ ts)
ends_of n b (operation.QubitReset l) arguments ts form count = ends_singles _ ts _ (λ at k. refl) (length-map ts _)
ends_of n b (operation.MeasurementReset l) arguments ts form count = ends_singles _ ts _ (λ at k. refl) (length-numbered 0 _ ts)
ends_of n b operation.ProductMeasurement arguments ts form count = ends_products n b arguments ts (products_of_form ts form)
ends_of n b (operation.PauliError l) arguments ts form count = ends_singles _ ts _ (λ at k. refl) (length-numbered b.faults _ ts)
ends_of n b operation.CorrelatedError arguments ts form count = ends_singles _ ts _ (λ at k. refl) refl
ends_of n b operation.DetectorDeclaration arguments ts form count = ends_singles _ ts _ (λ at k. refl) refl
ends_of n b operation.ObservableInclude arguments ts form count = ends_singles _ ts _ (λ at k. refl) refl
ends_of n b operation.Tick arguments ts form count = ends_singles _ ts _ (λ at k. refl) refl
ends_of n b operation.QubitCoordinates arguments ts form count = ends_singles _ ts _ (λ at k. refl) refl
ends_of n b operation.CoordinateShift arguments ts form count = ends_singles _ ts _ (λ at k. refl) refl

pub ends : (n : ℕ) (b : Before) (i : Instruction) → Fits i → Ends i.operation i.targets (length (new_steps n b i))
ends n b i fits = ends_of n b i.operation i.arguments i.targets fits.targets fits.count
