-- What steps hit, by the faults that they name: a step names one fault or none, and each fault is named once. So a fault
-- hits a target at one step at most, and 'at some step' says the same as 'at an odd number of steps'.
use Rattle.std.proofs.Common.{◌≡◌, ◌≢◌, ℕ, zero, suc, ◌+◌, ◌<◌, ◌==◌, Bool, true, false, ◌&&◌, ◌||◌, List, [], ◌∷◌, ◌++◌, Option, None, Some, refl, ap, ap₂, subst, sym, ◌∙◌, arith}
use Rattle.std.specs.Prelude.{⊤}
use Rattle.std.specs.List.{range_with_len}
use Rattle.std.specs.Option.{option_to_list}
use Rattle.std.proofs.lemmas.Bool.{eq-eqb, eqb-true, ne_eqb}
use Rattle.pauli_word.specs.Parity.{exclusive_or}
use Rattle.pauli_word.specs.Words.{anticommute}
use Rattle.pauli_word.proofs.Parities.{exclusive_or-false}
use Rattle.step_model.specs.Hits.{hits_at, hits_among}
use Rattle.step_model.specs.Listing.{Listing, ListedStep, One, Two, Collapse, Fault, Feedback, fault_word}
use Rattle.step_model.specs.Sensitivities.{Sensitivity, sensitivity}
use Rattle.step_model.specs.Targets.{is_listed}
use Rattle.step_model.specs.WellFormed.{faults_named, step_faults}

pub first_of_range : (f k m : ℕ) (rest : List ℕ) → f ∷ rest ≡ range_with_len k m → f ≡ k
first_of_range f k zero rest h = cc
first_of_range f k (suc m) rest h = cc

pub rest_of_range : (f k m : ℕ) (rest : List ℕ) → f ∷ rest ≡ range_with_len k m → (j : ℕ) × (rest ≡ range_with_len (k + 1) j)
rest_of_range f k zero rest h = cc
rest_of_range f k (suc m) rest h = (m, cc)

-- ---- what a step hits, by the faults that it names
-- the first of a list is another
abbrev pub OtherFirst : ℕ → List ℕ → Type 0
OtherFirst f [] = ⊤
OtherFirst f (e ∷ rest) = e ≢ f

-- a step hits nothing with a fault that it does not name
pub unnamed : (program : Listing) (f : ℕ) (step : ListedStep) (s : Sensitivity) (named : List ℕ) → step_faults step ≡ named → OtherFirst f named → hits_at program f step s ≡ false
unnamed program f (One gate q) s named e h = refl
unnamed program f (Two gate a b) s named e h = refl
unnamed program f (Collapse c None) s named e h = refl
unnamed program f (Collapse c (Some r)) s named e h = by_flip r.flip refl
  where
    by_flip : (flip : Option ℕ) → r.flip ≡ flip → hits_at program f (Collapse c (Some r)) s ≡ false
    by_flip None p = ap (λ flip. hits_at program f (Collapse c (Some (record r { flip = flip }))) s) p
    by_flip (Some g) p =
        let is : g ∷ [] ≡ named = ap option_to_list (sym p) ∙ e in
        let other : g ≢ f = subst (OtherFirst f) (sym is) h in
        ap (λ flip. hits_at program f (Collapse c (Some (record r { flip = flip }))) s) p ∙ ap (λ b. b && is_listed s.records r.number) (ne_eqb g f other)
unnamed program f (Fault g) s named e h =
    let other : g ≢ f = subst (OtherFirst f) (sym e) h in
    ap (λ b. b && anticommute s.word (fault_word program f)) (ne_eqb g f other)
unnamed program f (Feedback w r) s named e h = refl

-- a step names one fault or none
pub data NamesFew (named : List ℕ) : Type 0 where
  Nothing : named ≡ [] → NamesFew named
  One_fault : (e : ℕ) → named ≡ e ∷ [] → NamesFew named

pub names_few : (step : ListedStep) → NamesFew (step_faults step)
names_few (One gate q) = Nothing refl
names_few (Two gate a b) = Nothing refl
names_few (Collapse c None) = Nothing refl
names_few (Collapse c (Some r)) = by_flip r.flip
  where
    by_flip : (flip : Option ℕ) → NamesFew (option_to_list flip)
    by_flip None = Nothing refl
    by_flip (Some g) = One_fault g refl
names_few (Fault f) = One_fault f refl
names_few (Feedback w r) = Nothing refl

-- ---- all steps

-- a fault before all that these steps name hits nothing at them
pub earlier : (program : Listing) (named : List ℕ) (f : ℕ) (steps : List ListedStep) (k m : ℕ) → faults_named steps ≡ range_with_len k m → f < k → hits_among program named f steps ≡ false
earlier program named f [] k m h less = refl
earlier program named f (step ∷ steps) k m h less = by_names (names_few step) (λ a b p q. earlier program named f steps a b p q)
  where
    s : Sensitivity
    s = sensitivity program.qubits named steps

    by_names : NamesFew (step_faults step) → ((a b : ℕ) → faults_named steps ≡ range_with_len a b → f < a → hits_among program named f steps ≡ false) → hits_among program named f (step ∷ steps) ≡ false
    by_names (Nothing none) later_hits =
        ap₂ ◌||◌ (unnamed program f step s [] none tt)
        (later_hits k m (sym (ap (λ fs. fs ++ faults_named steps) none) ∙ h) less)
    by_names (One_fault e one) later_hits =
        let whole : e ∷ faults_named steps ≡ range_with_len k m = sym (ap (λ fs. fs ++ faults_named steps) one) ∙ h in
        let first : e ≡ k = first_of_range e k m (faults_named steps) whole in
        let later = rest_of_range e k m (faults_named steps) whole in
        ap₂ ◌||◌
        (unnamed program f step s (e ∷ []) one (λ p. omega (arith, p, first, less)))
        (later_hits (k + 1) later.0 later.1 (omega (arith, less)))

pub or_none : (b : Bool) → (b || false) ≡ b
or_none true = refl
or_none false = refl

-- whether a fault hits the target with these records at an odd number of these steps
abbrev pub hits_oddly : Listing → List ℕ → ℕ → List ListedStep → Bool
hits_oddly program named f [] = false
hits_oddly program named f (step ∷ steps) =
    exclusive_or (hits_at program f step (sensitivity program.qubits named steps)) (hits_oddly program named f steps)

pub oddly : (program : Listing) (named : List ℕ) (f : ℕ) (steps : List ListedStep) (k m : ℕ) → faults_named steps ≡ range_with_len k m → hits_among program named f steps ≡ hits_oddly program named f steps
oddly program named f [] k m h = refl
oddly program named f (step ∷ steps) k m h = by_names (names_few step) (λ a b p. oddly program named f steps a b p)
  where
    s : Sensitivity
    s = sensitivity program.qubits named steps

    not_here : hits_at program f step (sensitivity program.qubits named steps) ≡ false → hits_among program named f steps ≡ hits_oddly program named f steps → hits_among program named f (step ∷ steps) ≡ hits_oddly program named f (step ∷ steps)
    not_here none later =
        ap (λ b. b || hits_among program named f steps) none
        ∙ later
        ∙ sym (ap (λ b. exclusive_or b (hits_oddly program named f steps)) none)

    by_names : NamesFew (step_faults step) → ((a b : ℕ) → faults_named steps ≡ range_with_len a b → hits_among program named f steps ≡ hits_oddly program named f steps) → hits_among program named f (step ∷ steps) ≡ hits_oddly program named f (step ∷ steps)
    by_names (Nothing none) same_later =
        not_here (unnamed program f step s [] none tt)
        (same_later k m (sym (ap (λ fs. fs ++ faults_named steps) none) ∙ h))
    by_names (One_fault e one) same_later = by_fault (e == f) refl
      where
        whole : e ∷ faults_named steps ≡ range_with_len k m
        whole = sym (ap (λ fs. fs ++ faults_named steps) one) ∙ h

        first : e ≡ k
        first = first_of_range e k m (faults_named steps) whole

        later : (j : ℕ) × (faults_named steps ≡ range_with_len (k + 1) j)
        later = rest_of_range e k m (faults_named steps) whole

        same : hits_among program named f steps ≡ hits_oddly program named f steps
        same = same_later (k + 1) later.0 later.1

        by_fault : (it : Bool) → (e == f) ≡ it → hits_among program named f (step ∷ steps) ≡ hits_oddly program named f (step ∷ steps)
        by_fault true p =
            let is : e ≡ f = eqb-true e f p in
            let none : hits_among program named f steps ≡ false = earlier program named f steps (k + 1) later.0 later.1 (omega (arith, is, first)) in
            let at = hits_at program f step (sensitivity program.qubits named steps) in
            ap (λ b. at || b) none
            ∙ or_none at
            ∙ sym (exclusive_or-false at)
            ∙ ap (exclusive_or at) (sym none ∙ same)
        by_fault false p =
            let other : e ≢ f = λ q. differ (sym (eq-eqb e f q) ∙ p) in
            not_here (unnamed program f step s (e ∷ []) one other) same
          where
            differ : true ≡ false → ⊥
            differ t = cc
