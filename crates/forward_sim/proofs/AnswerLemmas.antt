-- What a pass over a program's declarations answers: behind one declaration more, and behind all of them.
use Rattle.std.proofs.Common.{◌≡◌, ◌+◌, ◌<◌, ◌-◌, ℕ, Bool, false, List, [], ◌∷◌, ◌++◌, length, map, get_or, not, set, inl, inr, refl, ap, ap₂, sym, subst, ◌∙◌, arith, append-nil, length-append}
use Rattle.std.specs.Prelude.{All}
use Rattle.std.proofs.Math.Bool.{beq}
use Rattle.std.proofs.lemmas.Bool.{cases_eq, cases_lt}
use Rattle.std.proofs.lemmas.List.{get_or-append-add, get_or-map, get_or-set_other, get_or-set_same, get_or_append_left, get_or_default, get_or_push, length-map, length-set, same_lists}
use Rattle.pauli_word.specs.Parity.{exclusive_or}
use Rattle.pauli_word.proofs.Parities.{exclusive_or_assoc, exclusive_or_middle}
use Rattle.step_model.specs.Listing.{Listing}
use Rattle.step_model.specs.Targets.{difference, parity, targets_of}
use Rattle.circuit_walk.specs.Declarations.{AreDeclarations, Declared, Detector, Inclusion, IsNextDeclared, added_to, detectors_in}
use Rattle.circuit_walk.proofs.DeclaredParts.{detectors-append, one_detector, no_detector, added-append, next_detector, next_observable, few_done, observable_is, added_here, added_elsewhere}
use Rattle.forward_sim.specs.private.Answers.{AreAnswered, IsAnswering, differ_in}
use Rattle.forward_sim.proofs.Differences.{differences-map}
use Rattle.forward_sim.proofs.ExclusiveOrs.{exclusive_or_is}

-- ---- one after another

pub parity-append : (xs ys : List ℕ) (records : List Bool) → parity (xs ++ ys) records ≡ exclusive_or (parity xs records) (parity ys records)
parity-append [] ys records = refl
parity-append (r ∷ xs) ys records =
    ap (exclusive_or (get_or records r false)) (parity-append xs ys records)
    ∙ sym (exclusive_or_assoc (get_or records r false) (parity xs records) (parity ys records))

differ-append : (first second : List Bool) (xs ys : List ℕ) → differ_in first second (xs ++ ys) ≡ exclusive_or (differ_in first second xs) (differ_in first second ys)
differ-append first second xs ys =
    ap₂ exclusive_or (parity-append xs ys first) (parity-append xs ys second)
    ∙ exclusive_or_middle (parity xs first) (parity ys first) (parity xs second) (parity ys second)

-- one record more, before those that are left
pub one_more : (first second : List Bool) (r : ℕ) (left rest : List ℕ) (differ a b whole : Bool) → left ≡ r ∷ rest → a ≡ get_or first r false → b ≡ get_or second r false
    → exclusive_or differ (differ_in first second left) ≡ whole → exclusive_or (not (beq differ (not (beq a b)))) (differ_in first second rest) ≡ whole
one_more first second r left rest differ a b whole is a_is b_is so_far =
    let x = get_or first r false in
    let y = get_or second r false in
    let here : not (beq a b) ≡ exclusive_or x y = exclusive_or_is a b y b_is ∙ ap (λ v. exclusive_or v y) a_is in
    ap (λ v. exclusive_or v (differ_in first second rest)) (exclusive_or_is differ (not (beq a b)) (exclusive_or x y) here)
    ∙ exclusive_or_assoc differ (exclusive_or x y) (differ_in first second rest)
    ∙ ap (exclusive_or differ) (exclusive_or_middle x y (parity rest first) (parity rest second))
    ∙ ap (λ l. exclusive_or differ (differ_in first second l)) (sym is)
    ∙ so_far

-- the records of a declaration are in both lists
pub named_fit : {program : Listing} {first second : List Bool} {done : List Declared} {records reference : List Bool} {next detectors : ℕ} {answers : List Bool} (named : List ℕ)
    → IsAnswering program first second done records reference next detectors answers → All (λ r. r < program.records) named
    → (All (λ r. r < length records) named) × (All (λ r. r < length reference) named)
named_fit named so_far fit = (
  subst (λ m. All (λ r. r < m) named) (sym (ap length so_far.records_are ∙ so_far.records_fit)) fit,
  subst (λ m. All (λ r. r < m) named) (sym (ap length so_far.reference_is ∙ so_far.reference_fits)) fit,
)

-- ---- what is answered

module _ (program : Listing) (first second : List Bool) where
  pub detector_answered : (done : List Declared) (records : List ℕ) (answers : List Bool) (next : ℕ) (answer : Bool) → IsNextDeclared program done (Detector records) → AreAnswered program first second done answers
      → next ≡ length (detectors_in done) → answer ≡ differ_in first second records → AreAnswered program first second (done ++ Detector records ∷ []) (set answers next answer)
  detector_answered done records answers next answer is so_far next_is answer_is =
      let n = length (detectors_in done) in
      let low = next_detector program done records is in
      let more = detectors-append done (Detector records ∷ []) in
      let room : next < length answers = omega (arith, low, next_is, so_far.size) in
      record {
        size = length-set answers next answer ∙ so_far.size;
        detectors = λ d below.
            elim (cases_eq d next) as (λ _. get_or (set answers next answer) d false ≡ differ_in first second (get_or (detectors_in (done ++ Detector records ∷ [])) d [])) [
              | inl same ↦
                  ap (λ i. get_or (set answers next answer) i false) same
                  ∙ get_or-set_same answers next answer false room
                  ∙ answer_is
                  ∙ ap (differ_in first second) (sym (ap (λ l. get_or l d []) more ∙ get_or_push (detectors_in done) records [] d (sym next_is ∙ sym same)))
              | inr other ↦
                  let earlier : d < n = omega (arith, other, below, next_is, one_detector done records) in
                  get_or-set_other answers next d answer false other
                  ∙ so_far.detectors d earlier
                  ∙ ap (differ_in first second) (sym (ap (λ l. get_or l d []) more ∙ get_or_append_left (detectors_in done) (records ∷ []) [] d earlier))
            ];
        observables = λ k below.
            get_or-set_other answers next (length program.detectors + k) answer false (λ e. absurd (omega (arith, e, low, next_is)))
            ∙ so_far.observables k below
            ∙ ap (differ_in first second) (sym (added-append k done (Detector records ∷ []) ∙ append-nil (added_to k done)));
      }

  pub inclusion_answered : (done : List Declared) (o : ℕ) (records : List ℕ) (answers : List Bool) (number : ℕ) (answer : Bool) → IsNextDeclared program done (Inclusion o records) → AreAnswered program first second done answers
      → number ≡ length program.detectors + o → answer ≡ exclusive_or (get_or answers number false) (differ_in first second records) → AreAnswered program first second (done ++ Inclusion o records ∷ []) (set answers number answer)
  inclusion_answered done o records answers number answer is so_far number_is answer_is =
      let low = next_observable program done records o is in
      let few = few_done program done records o is in
      let same_detectors = no_detector done o records in
      let room : number < length answers = omega (arith, low, number_is, so_far.size) in
      record {
        size = length-set answers number answer ∙ so_far.size;
        detectors = λ d below.
            let earlier : d < length (detectors_in done) = omega (arith, below, ap length same_detectors) in
            get_or-set_other answers number d answer false (λ e. absurd (omega (arith, e, few, earlier, number_is)))
            ∙ so_far.detectors d earlier
            ∙ ap (λ l. differ_in first second (get_or l d [])) (sym same_detectors);
        observables = λ k below.
            elim (cases_eq o k) as (λ _. get_or (set answers number answer) (length program.detectors + k) false ≡ differ_in first second (added_to k (done ++ Inclusion o records ∷ []))) [
              | inl same ↦
                  let place : length program.detectors + k ≡ number = omega (arith, same, number_is) in
                  ap (λ i. get_or (set answers number answer) i false) place
                  ∙ get_or-set_same answers number answer false room
                  ∙ answer_is
                  ∙ ap (λ b. exclusive_or b (differ_in first second records)) (ap (λ i. get_or answers i false) (sym place) ∙ so_far.observables k below)
                  ∙ sym (differ-append first second (added_to k done) records)
                  ∙ ap (differ_in first second) (sym (added_here o k done [] records same ∙ ap (λ l. added_to k done ++ l) (append-nil records)))
              | inr other ↦
                  get_or-set_other answers number (length program.detectors + k) answer false (λ e. absurd (omega (arith, e, number_is, other)))
                  ∙ so_far.observables k below
                  ∙ ap (differ_in first second) (sym (added_elsewhere o k done records other))
            ];
      }

  -- ---- behind all declarations

  module _ (all : List Declared) (answers : List Bool) (are : AreDeclarations program all) (answered : AreAnswered program first second all answers) where
    answer_is : (i : ℕ) → i < length answers → get_or answers i false ≡ differ_in first second (get_or (targets_of program) i [])
    answer_is i below =
        elim (cases_lt i (length program.detectors)) as (λ _. get_or answers i false ≡ differ_in first second (get_or (targets_of program) i [])) [
          | inl low ↦
              answered.detectors i (omega (arith, low, ap length are.detectors))
              ∙ ap (λ l. differ_in first second (get_or l i [])) (sym are.detectors)
              ∙ ap (differ_in first second) (sym (get_or_append_left program.detectors program.observables [] i low))
          | inr past ↦
              let k = i - length program.detectors in
              let place : i ≡ length program.detectors + k = omega (arith, past) in
              let there : k < length program.observables = omega (arith, place, below, answered.size) in
              ap (λ j. get_or answers j false) place
              ∙ answered.observables k there
              ∙ ap (differ_in first second)
              (sym (ap (λ j. get_or (targets_of program) j []) place ∙ get_or-append-add program.detectors program.observables k [] ∙ observable_is program all k are there))
        ]

    pub all_answered : answers ≡ difference program first second
    all_answered =
        let targets = targets_of program in
        let f = differ_in first second in
        let long : length answers ≡ length targets = answered.size ∙ sym (length-append program.detectors program.observables) in
        same_lists answers (map f targets) (long ∙ sym (length-map targets f))
        (λ i d below.
        let there : i < length targets = omega (arith, below, long) in
        get_or_default answers i d false below ∙ answer_is i below ∙ sym (get_or-map f targets i [] d there))
        ∙ sym (differences-map (λ named. parity named first) (λ named. parity named second) targets)
