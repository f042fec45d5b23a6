-- The records that steps make, and the faults that they name, are numbered one after another from those that came before an
-- instruction, in order, each once.
use Rattle.std.proofs.Common.{◌≡◌, ℕ, ◌+◌, ◌-◌, ◌==◌, Bool, true, false, if◌then◌else◌, List, [], ◌∷◌, ◌++◌, length, length-append, map, None, Some, refl, sym, ap, ap₂, ◌∙◌, arith}
use Rattle.std.specs.List.{filter, flat_map, range_with_len}
use Rattle.std.proofs.lemmas.List.{length-map}
use Rattle.std.proofs.lemmas.List.Concat.{flat_map-append}
use Rattle.std.proofs.lemmas.List.FromFn.{length-range_with_len}
use Rattle.gate_table.specs.declared.gate.Gate.{Gate}
use Rattle.gate_table.specs.Images.{arity_of}
use Rattle.pauli_word.specs.declared.letter.Letter.{Letter}
use Rattle.pauli_word.specs.Words.{lone_letter}
use Rattle.step_model.proofs.RangeLemmas.{range-append}
use Rattle.step_model.specs.Listing.{ListedFault, ListedStep, One, Two, Collapse, Fault, Feedback, Applies as AppliesLetters, Measured, Reset, is_collapse, step_records}
use Rattle.step_model.specs.WellFormed.{collapse_count, faults_named, records_made, step_faults}
use Rattle.stim_parser.specs.declared.operation.Operation.{Operation}
use Rattle.stim_parser.specs.declared.operation.Operation.TheVariants.{Applies, Measurement, QubitReset, MeasurementReset, ProductMeasurement, PauliError, CorrelatedError}
use Rattle.stim_parser.specs.declared.target.Target.{Target}
use Rattle.stim_parser.specs.declared.target.Target.TheVariants.{Back}
use Rattle.stim_parser.specs.Limits.{products_of, qubit_of}
use Rattle.stim_parser.specs.Verdicts.{Instruction}
use Rattle.circuit_walk.specs.Before.{Before}
use Rattle.circuit_walk.specs.FaultsMade.{fault_with, faults_made, flips_made}
use Rattle.circuit_walk.specs.Meaning.{after, made_of, new_faults, new_records, new_steps}
use Rattle.circuit_walk.specs.StepsMade.{collapses_made, fed_letter, flip_of, numbered_from, operation_made, pair_made, pairs_made}
use Rattle.circuit_walk.specs.Targets.{is_inverted, is_product_inverted, term_at}

-- ---- numbers one after another

-- as many numbers as there are, from this one on
abbrev pub IsRange : ℕ → List ℕ → Type 0
IsRange a xs = xs ≡ range_with_len a (length xs)

range_of : (a n : ℕ) (xs : List ℕ) → xs ≡ range_with_len (a + 0) n → IsRange a xs
range_of a n xs h =
    let start : a + 0 ≡ a = omega arith in
    let from : xs ≡ range_with_len a n = h ∙ ap (λ b. range_with_len b n) start in
    from ∙ ap (range_with_len a) (sym (length-range_with_len a n) ∙ ap (λ (ys : List ℕ). length ys) (sym from))

range-joined : (a : ℕ) (xs ys : List ℕ) → IsRange a xs → IsRange (a + length xs) ys → IsRange a (xs ++ ys)
range-joined a xs ys h k =
    ap₂ ◌++◌ h k
    ∙ sym (range-append a (length xs) (length ys))
    ∙ ap (range_with_len a) (sym (length-append xs ys))

-- ---- what each step names

-- the step of a pair is feedback where one of its targets is a record, and else a gate
pair_is : (P : ListedStep → Type 0) (n r : ℕ) (g : Gate) (a b : Target) → ((w : List Letter) (k : ℕ) → P (Feedback w k)) → P (Two g (qubit_of a) (qubit_of b)) → P (pair_made n r g a b)
pair_is P n r g (Back k) b feeds two = feeds (lone_letter n (qubit_of b) (fed_letter g)) (r - k)
pair_is P n r g a (Back k) feeds two = feeds (lone_letter n (qubit_of a) (fed_letter g)) (r - k)
pair_is P n r g a b feeds two = two

-- the records that a step makes, or the faults that it names
module _ (names : ListedStep → List ℕ) where
  -- each step names the next number
  named_each : {X : Type 0} (a : ℕ) (f : ℕ → X → ListedStep) → ((k : ℕ) (x : X) → names (f k x) ≡ (a + k) ∷ []) → (k : ℕ) (xs : List X) → flat_map names (numbered_from k f xs) ≡ range_with_len (a + k) (length xs)
  named_each a f one k [] = refl
  named_each a f one k (x ∷ xs) =
      let next : a + (k + 1) ≡ a + k + 1 = omega arith in
      ap₂ (λ (here later : List ℕ). here ++ later) (one k x) (named_each a f one (k + 1) xs ∙ ap (λ b. range_with_len b (length xs)) next)

  -- no step names any
  named_none : {X : Type 0} (f : ℕ → X → ListedStep) → ((k : ℕ) (x : X) → names (f k x) ≡ []) → (k : ℕ) (xs : List X) → flat_map names (numbered_from k f xs) ≡ []
  named_none f none k [] = refl
  named_none f none k (x ∷ xs) = ap₂ (λ (here later : List ℕ). here ++ later) (none k x) (named_none f none (k + 1) xs)

  mapped_none : {X : Type 0} (f : X → ListedStep) → ((x : X) → names (f x) ≡ []) → (xs : List X) → flat_map names (map f xs) ≡ []
  mapped_none f none [] = refl
  mapped_none f none (x ∷ xs) = ap₂ (λ (here later : List ℕ). here ++ later) (none x) (mapped_none f none xs)

  -- gates name none
  gates_none : ((g : Gate) (q : ℕ) → names (One g q) ≡ []) → ((g : Gate) (p q : ℕ) → names (Two g p q) ≡ []) → ((w : List Letter) (r : ℕ) → names (Feedback w r) ≡ []) → (n r : ℕ) (g : Gate) (alone : Bool) (ts : List Target) → flat_map names (if alone then map (λ target. One g (qubit_of target)) ts else pairs_made n r g ts) ≡ []
  gates_none ones twos feeds n r g true ts = mapped_none (λ target. One g (qubit_of target)) (λ t. ones g (qubit_of t)) ts
  gates_none ones twos feeds n r g false [] = refl
  gates_none ones twos feeds n r g false (a ∷ []) = refl
  gates_none ones twos feeds n r g false (a ∷ b ∷ ts) =
      ap₂ (λ (here later : List ℕ). here ++ later)
      (pair_is (λ s. names s ≡ []) n r g a b feeds (twos g (qubit_of a) (qubit_of b)))
      (gates_none ones twos feeds n r g false ts)

-- ---- the steps of an instruction

-- a collapse that has the next record, and the next fault where an argument is
abbrev pub collapse_with : {X : Type 0} → Before → List (List ℕ) → (X → Measured) → (X → Bool) → ℕ → X → ListedStep
collapse_with b arguments measured inverted k x =
    Collapse (measured x) (Some (record {
      number = b.records + k;
      inverted = inverted x;
      flip = flip_of (b.faults + k) arguments;
    }))

-- steps number their records from r on, and name these faults from f on
record AreNumbered (r f : ℕ) (steps : List ListedStep) (faults : List ListedFault) : Type 0 where
  pub records : IsRange r (flat_map step_records steps)
  pub faults_are : flat_map step_faults steps ≡ range_with_len f (length faults)

pub no_flips : (arguments : List (List ℕ)) → flips_made arguments [] ≡ []
no_flips [] = refl
no_flips (p ∷ arguments) = refl

-- steps that make no records and name no faults
nothing_numbered : (r f : ℕ) (arguments : List (List ℕ)) (steps : List ListedStep) → flat_map step_records steps ≡ [] → flat_map step_faults steps ≡ [] → AreNumbered r f steps (flips_made arguments (flat_map step_records steps))
nothing_numbered r f arguments steps h k =
    record {
      records = h ∙ ap (λ (xs : List ℕ). range_with_len r (length xs)) (sym h);
      faults_are = k ∙ ap (λ (faults : List ListedFault). range_with_len f (length faults)) (sym (ap (flips_made arguments) h ∙ no_flips arguments));
    }

-- the records of collapses are the next ones
pub collapses-records : {X : Type 0} (b : Before) (arguments : List (List ℕ)) (measured : X → Measured) (inverted : X → Bool) (xs : List X) → flat_map step_records (collapses_made b arguments measured inverted xs) ≡ range_with_len (b.records + 0) (length xs)
collapses-records b arguments measured inverted xs =
    named_each step_records b.records (collapse_with b arguments measured inverted) (λ k x. refl) 0 xs

-- and so are the faults that flip them
collapses_numbered : {X : Type 0} (b : Before) (arguments : List (List ℕ)) (measured : X → Measured) (inverted : X → Bool) (xs : List X) → AreNumbered b.records b.faults (collapses_made b arguments measured inverted xs) (flips_made arguments (flat_map step_records (collapses_made b arguments measured inverted xs)))
collapses_numbered b arguments measured inverted xs =
    let made = collapses-records b arguments measured inverted xs in
    record {
      records = range_of b.records (length xs) (flat_map step_records (collapses_made b arguments measured inverted xs)) made;
      faults_are = flips arguments made;
    }
  where
    flips : (given : List (List ℕ)) → flat_map step_records (collapses_made b given measured inverted xs) ≡ range_with_len (b.records + 0) (length xs) → flat_map step_faults (collapses_made b given measured inverted xs) ≡ range_with_len b.faults (length (flips_made given (flat_map step_records (collapses_made b given measured inverted xs))))
    flips [] is = named_none step_faults (collapse_with b [] measured inverted) (λ k x. refl) 0 xs
    flips (p ∷ given) is =
        let start : b.faults + 0 ≡ b.faults = omega arith in
        let records = flat_map step_records (collapses_made b (p ∷ given) measured inverted xs) in
        let count : length (flips_made (p ∷ given) records) ≡ length xs = length-map records _ ∙ ap (λ (ys : List ℕ). length ys) is ∙ length-range_with_len (b.records + 0) (length xs) in
        named_each step_faults b.faults (collapse_with b (p ∷ given) measured inverted) (λ k x. refl) 0 xs
        ∙ ap₂ range_with_len start (sym count)

-- each error is the next fault
errors_numbered : (b : Before) (l : Letter) (arguments : List (List ℕ)) (ts : List Target) → AreNumbered b.records b.faults (numbered_from b.faults (λ f target. Fault f) ts) (faults_made (flat_map step_records (numbered_from b.faults (λ f target. Fault f) ts)) (PauliError l) arguments ts)
errors_numbered b l arguments ts =
    let none : flat_map step_records (numbered_from b.faults (λ f (target : Target). Fault f) ts) ≡ [] = named_none step_records (λ f target. Fault f) (λ k t. refl) b.faults ts in
    let start : 0 + b.faults ≡ b.faults = omega arith in
    let count : length (faults_made [] (PauliError l) arguments ts) ≡ length ts = length-map ts (λ target. fault_with arguments (AppliesLetters (term_at l target ∷ []))) in
    record {
      records = none ∙ ap (λ (xs : List ℕ). range_with_len b.records (length xs)) (sym none);
      faults_are =
          named_each step_faults 0 (λ f target. Fault f) (λ k t. let same : k ≡ 0 + k = omega arith in ap (λ (f : ℕ). f ∷ []) same) b.faults ts
          ∙ ap₂ range_with_len start (sym count);
    }

-- gates and resets make no records
pub gate-no_records : (n : ℕ) (b : Before) (g : Gate) (arguments : List (List ℕ)) (ts : List Target) → flat_map step_records (operation_made n b (Applies g) arguments ts) ≡ []
gate-no_records n b g arguments ts =
    gates_none step_records (λ g q. refl) (λ g p q. refl) (λ w r. refl) n b.records g (arity_of g == 1) ts

pub reset-no_records : (n : ℕ) (b : Before) (l : Letter) (arguments : List (List ℕ)) (ts : List Target) → flat_map step_records (operation_made n b (QubitReset l) arguments ts) ≡ []
reset-no_records n b l arguments ts = mapped_none step_records (λ target. Collapse (Reset l (qubit_of target)) None) (λ t. refl) ts

operation_numbered : (n : ℕ) (b : Before) (o : Operation) (arguments : List (List ℕ)) (ts : List Target) → AreNumbered b.records b.faults (operation_made n b o arguments ts) (faults_made (flat_map step_records (operation_made n b o arguments ts)) o arguments ts)
operation_numbered n b (Applies g) arguments ts =
    nothing_numbered b.records b.faults arguments (operation_made n b (Applies g) arguments ts)
    (gate-no_records n b g arguments ts)
    (gates_none step_faults (λ g q. refl) (λ g p q. refl) (λ w r. refl) n b.records g (arity_of g == 1) ts)
operation_numbered n b (Measurement l) arguments ts = collapses_numbered b arguments _ is_inverted ts
operation_numbered n b (QubitReset l) arguments ts =
    nothing_numbered b.records b.faults arguments (operation_made n b (QubitReset l) arguments ts)
    (reset-no_records n b l arguments ts)
    (mapped_none step_faults (λ target. Collapse (Reset l (qubit_of target)) None) (λ t. refl) ts)
operation_numbered n b (MeasurementReset l) arguments ts = collapses_numbered b arguments _ is_inverted ts
operation_numbered n b ProductMeasurement arguments ts = collapses_numbered b arguments _ is_product_inverted (products_of ts)
operation_numbered n b (PauliError l) arguments ts = errors_numbered b l arguments ts
operation_numbered n b CorrelatedError arguments ts = record { records = refl; faults_are = refl }
operation_numbered n b o arguments ts = nothing_numbered b.records b.faults arguments [] refl refl

-- ---- of instructions, one after another

pub records_numbered : (n : ℕ) (b : Before) (is : List Instruction) → IsRange b.records (flat_map step_records (made_of n (new_steps n) b is))
unfolding made_of
records_numbered n b [] = refl
records_numbered n b (i ∷ is) =
    let later = made_of n (new_steps n) (after n b i) is in
    let joined = range-joined b.records (new_records n b i) (flat_map step_records later) (operation_numbered n b i.operation i.arguments i.targets).records (records_numbered n (after n b i) is) in
    flat_map-append step_records (new_steps n b i) later
    ∙ joined
    ∙ ap (λ (xs : List ℕ). range_with_len b.records (length xs)) (sym (flat_map-append step_records (new_steps n b i) later))

pub faults_numbered : (n : ℕ) (b : Before) (is : List Instruction) → flat_map step_faults (made_of n (new_steps n) b is) ≡ range_with_len b.faults (length (made_of n (new_faults n) b is))
unfolding made_of
faults_numbered n b [] = refl
faults_numbered n b (i ∷ is) =
    let later = made_of n (new_steps n) (after n b i) is in
    let faults = made_of n (new_faults n) (after n b i) is in
    flat_map-append step_faults (new_steps n b i) later
    ∙ ap₂ ◌++◌ (operation_numbered n b i.operation i.arguments i.targets).faults_are (faults_numbered n (after n b i) is)
    ∙ sym (range-append b.faults (length (new_faults n b i)) (length faults))
    ∙ ap (range_with_len b.faults) (sym (length-append (new_faults n b i) faults))

-- ---- as well-formed programs have them

pub flat-records : (steps : List ListedStep) → records_made steps ≡ flat_map step_records steps
flat-records [] = refl
flat-records (s ∷ steps) = ap (λ rs. step_records s ++ rs) (flat-records steps)

pub flat-faults : (steps : List ListedStep) → faults_named steps ≡ flat_map step_faults steps
flat-faults [] = refl
flat-faults (s ∷ steps) = ap (λ fs. step_faults s ++ fs) (flat-faults steps)

pub collapses_counted : (steps : List ListedStep) → collapse_count steps ≡ length (filter is_collapse steps)
collapses_counted [] = refl
collapses_counted (Collapse m r ∷ steps) = omega (arith, collapses_counted steps)
collapses_counted (s ∷ steps) = omega (arith, collapses_counted steps)
