-- The declarations of a program, one after another: what the next one lists is there, and what those behind it and all of them list.
use Rattle.std.proofs.Common.{◌≡◌, ◌≢◌, ◌+◌, ◌<◌, ◌≤◌, ◌==◌, ℕ, if◌then◌else◌, List, [], ◌∷◌, ◌++◌, length, get_or, refl, ap, ap₂, subst, sym, ◌∙◌, arith, append_assoc, append-nil, length-append}
use Rattle.std.specs.Prelude.{All}
use Rattle.std.proofs.lemmas.Bool.{eq-eqb, ne_eqb}
use Rattle.std.proofs.lemmas.List.{get_or-append-add, get_or_append_left}
use Rattle.std.proofs.lemmas.List.FromFn.{get_or-map-range_with_len}
use Rattle.step_model.specs.Listing.{Listing}
use Rattle.step_model.specs.WellFormed.{IsWellFormed}
use Rattle.circuit_walk.specs.Declarations.{AreDeclarations, Declared, Detector, Inclusion, IsNextDeclared, IsThere, added_to, detectors_in}

-- ---- one after another

pub detectors-append : (xs ys : List Declared) → detectors_in (xs ++ ys) ≡ detectors_in xs ++ detectors_in ys
detectors-append [] ys = refl
detectors-append (Detector records ∷ xs) ys = ap (λ (ds : List (List ℕ)). records ∷ ds) (detectors-append xs ys)
detectors-append (Inclusion k records ∷ xs) ys = detectors-append xs ys

pub one_detector : (done : List Declared) (records : List ℕ) → length (detectors_in (done ++ Detector records ∷ [])) ≡ length (detectors_in done) + 1
one_detector done records =
    ap length (detectors-append done (Detector records ∷ [])) ∙ length-append (detectors_in done) (records ∷ [])

pub no_detector : (done : List Declared) (o : ℕ) (records : List ℕ) → detectors_in (done ++ Inclusion o records ∷ []) ≡ detectors_in done
no_detector done o records = detectors-append done (Inclusion o records ∷ []) ∙ append-nil (detectors_in done)

pub added-append : (k : ℕ) (xs ys : List Declared) → added_to k (xs ++ ys) ≡ added_to k xs ++ added_to k ys
added-append k [] ys = refl
added-append k (Detector records ∷ xs) ys = added-append k xs ys
added-append k (Inclusion observable records ∷ xs) ys =
    let here = if observable == k then records else [] in
    ap (λ (rs : List ℕ). here ++ rs) (added-append k xs ys) ∙ sym (append_assoc here (added_to k xs) (added_to k ys))

-- ---- the next declaration

module _ (program : Listing) (done : List Declared) (records : List ℕ) where
  module _ (next : IsNextDeclared program done (Detector records)) where
    all_detectors : program.detectors ≡ detectors_in done ++ records ∷ detectors_in next.rest
    all_detectors = next.all.detectors ∙ detectors-append done (Detector records ∷ next.rest)

    pub next_detector : length (detectors_in done) < length program.detectors
    next_detector = omega (arith, ap length all_detectors, length-append (detectors_in done) (records ∷ detectors_in next.rest))

    pub detector_is : get_or program.detectors (length (detectors_in done)) [] ≡ records
    detector_is =
        let n = length (detectors_in done) in
        let place : n ≡ n + 0 = omega arith in
        ap₂ (λ (l : List (List ℕ)) (i : ℕ). get_or l i []) all_detectors place
        ∙ get_or-append-add (detectors_in done) (records ∷ detectors_in next.rest) 0 []

    pub detector_fits : IsWellFormed program → All (λ r. r < program.records) records
    detector_fits fits =
        subst (All (λ r. r < program.records)) detector_is (fits.detectors_fit (length (detectors_in done)) [] next_detector)

  module _ (o : ℕ) (next : IsNextDeclared program done (Inclusion o records)) where
    pub next_observable : o < length program.observables
    next_observable =
        let n = length done in
        let place : n ≡ n + 0 = omega arith in
        let is : get_or (done ++ Inclusion o records ∷ next.rest) n (Inclusion o records) ≡ Inclusion o records =
        ap (λ (i : ℕ). get_or (done ++ Inclusion o records ∷ next.rest) i (Inclusion o records)) place
        ∙ get_or-append-add done (Inclusion o records ∷ next.rest) 0 (Inclusion o records) in
        subst (IsThere program) is
        (next.all.there n (Inclusion o records) (omega (arith, length-append done (Inclusion o records ∷ next.rest))))

    pub few_done : length (detectors_in done) ≤ length program.detectors
    few_done =
        omega (arith, ap length next.all.detectors, ap length (detectors-append done (Inclusion o records ∷ next.rest)), length-append (detectors_in done) (detectors_in next.rest))

-- the records of an observable
pub observable_is : (program : Listing) (all : List Declared) (k : ℕ) → AreDeclarations program all → k < length program.observables → get_or program.observables k [] ≡ added_to k all
observable_is program all k are low =
    ap (λ (l : List (List ℕ)). get_or l k []) are.observables
    ∙ get_or-map-range_with_len (λ k. added_to k all) 0 (length program.observables) k k [] low (omega arith)

-- all of a middle part
middle : (P : ℕ → Type 0) (xs ys zs : List ℕ) → All P (xs ++ (ys ++ zs)) → All P ys
middle P xs ys zs all i d lt =
    let place : length xs + i < length (xs ++ (ys ++ zs)) = omega (arith, lt, length-append xs (ys ++ zs), length-append ys zs) in
    subst P
    (get_or-append-add xs (ys ++ zs) i d ∙ get_or_append_left ys zs d i lt)
    (all (length xs + i) d place)

pub added_here : (o k : ℕ) (done rest : List Declared) (records : List ℕ) → o ≡ k → added_to k (done ++ Inclusion o records ∷ rest) ≡ added_to k done ++ (records ++ added_to k rest)
added_here o k done rest records same =
    added-append k done (Inclusion o records ∷ rest)
    ∙ ap (λ b. added_to k done ++ ((if b then records else []) ++ added_to k rest)) (eq-eqb o k same)

pub added_elsewhere : (o k : ℕ) (done : List Declared) (records : List ℕ) → o ≢ k → added_to k (done ++ Inclusion o records ∷ []) ≡ added_to k done
added_elsewhere o k done records other =
    added-append k done (Inclusion o records ∷ [])
    ∙ ap (λ b. added_to k done ++ ((if b then records else []) ++ [])) (ne_eqb o k other)
    ∙ append-nil (added_to k done)

pub inclusion_fits : (program : Listing) (done : List Declared) (records : List ℕ) (o : ℕ) → IsNextDeclared program done (Inclusion o records) → IsWellFormed program → All (λ r. r < program.records) records
inclusion_fits program done records o next fits =
    let low = next_observable program done records o next in
    let all = done ++ Inclusion o records ∷ next.rest in
    middle (λ r. r < program.records) (added_to o done) records (added_to o next.rest)
    (subst (All (λ r. r < program.records)) (observable_is program all o next.all low ∙ added_here o o done next.rest records refl) (fits.observables_fit o [] low))
