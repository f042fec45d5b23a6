-- What a circuit lists is as long as its totals say: each instruction makes as many records, collapses, faults, steps and detectors
-- as it counts for, and so do all that are reached.
use Rattle.std.proofs.Common.{◌≡◌, ◌+◌, ◌*◌, ◌/◌, ◌==◌, ℕ, Bool, true, false, if◌then◌else◌, List, [], ◌∷◌, ◌++◌, length, length-append, map, refl, ap, ◌∙◌, arith}
use Rattle.std.specs.List.{filter, flat_map, sum_by}
use Rattle.std.proofs.lemmas.List.{length-map}
use Rattle.std.proofs.lemmas.List.Concat.{flat_map-append}
use Rattle.std.proofs.lemmas.List.FromFn.{length-map-range_with_len}
use Rattle.std.proofs.lemmas.List.Sums.{sum_by-cons}
use Rattle.gate_table.specs.declared.gate.Gate.{Gate}
use Rattle.gate_table.specs.Images.{arity_of}
use Rattle.step_model.specs.Listing.{Listing, ListedStep, One, is_collapse, step_records}
use Rattle.stim_lexer.specs.Reached.{reached}
use Rattle.stim_parser.specs.declared.operation.Operation.{Operation}
use Rattle.stim_parser.specs.declared.operation.Operation.TheVariants as operation
use Rattle.stim_parser.specs.declared.target.Target.{Target}
use Rattle.stim_parser.specs.Limits.{products_of, qubit_of}
use Rattle.stim_parser.specs.Trees.{Tree}
use Rattle.stim_parser.specs.Verdicts.{Instruction}
use Rattle.circuit_walk.specs.Before.{Before}
use Rattle.circuit_walk.specs.Meaning.{after, at_start, listing_of, made_of, new_faults, new_records, new_steps}
use Rattle.circuit_walk.specs.StepsMade.{gate_made, operation_made, pairs_made}
use Rattle.circuit_walk.specs.TargetsMade.{operation_detectors}
use Rattle.circuit_walk.specs.Totals.{observable_total, qubit_total, target_count}
use Rattle.circuit_walk.specs.Makes.{makes_collapses, makes_faults, makes_records, one_if}
use Rattle.circuit_walk.proofs.CountLemmas.{Each, Makes, each_new, length-numbered, new_faults-counted, new_records-counted}
use Rattle.unroll.specs.private.MadeTotals.{collapse_count, collapse_total, collapses_made, detector_count, detector_total, detectors_made, fault_count, fault_total, faults_counted, has_argument, made_count, made_total, record_count, record_total, records_made, steps_made}
use Rattle.unroll.proofs.ReachedCounts.{sum-reached}

-- ---- one instruction

length-pairs : (n r : ℕ) (g : Gate) (ts : List Target) → length (pairs_made n r g ts) ≡ length ts / 2
length-pairs n r g [] = refl
length-pairs n r g (a ∷ []) = refl
length-pairs n r g (a ∷ b ∷ ts) =
    let two : length (a ∷ b ∷ ts) / 2 ≡ length ts / 2 + 1 = omega arith in
    omega (arith, two, length-pairs n r g ts)

length-gate : (n r : ℕ) (g : Gate) (ts : List Target) → length (gate_made n r g ts) ≡ (if arity_of g == 1 then length ts else length ts / 2)
length-gate n r g ts = by_arity (arity_of g == 1)
  where
    by_arity : (one : Bool) → length (if one then map (λ target. One g (qubit_of target)) ts else pairs_made n r g ts) ≡ (if one then length ts else length ts / 2)
    by_arity true = length-map ts (λ target. One g (qubit_of target))
    by_arity false = length-pairs n r g ts

steps_counted : (n : ℕ) (b : Before) (o : Operation) (arguments : List (List ℕ)) (ts : List Target) → length (operation_made n b o arguments ts) ≡ steps_made o (target_count o ts)
steps_counted n b (operation.Applies g) arguments ts = length-gate n b.records g ts
steps_counted n b (operation.Measurement l) arguments ts = length-numbered 0 _ ts
steps_counted n b (operation.QubitReset l) arguments ts = length-map ts _
steps_counted n b (operation.MeasurementReset l) arguments ts = length-numbered 0 _ ts
steps_counted n b operation.ProductMeasurement arguments ts = length-numbered 0 _ (products_of ts)
steps_counted n b (operation.PauliError l) arguments ts = length-numbered b.faults _ ts
steps_counted n b operation.CorrelatedError arguments ts = refl
steps_counted n b operation.DetectorDeclaration arguments ts = refl
steps_counted n b operation.ObservableInclude arguments ts = refl
steps_counted n b operation.Tick arguments ts = refl
steps_counted n b operation.QubitCoordinates arguments ts = refl
steps_counted n b operation.CoordinateShift arguments ts = refl

pub new_steps-made : (n : ℕ) (b : Before) (i : Instruction) → length (new_steps n b i) ≡ made_count i
new_steps-made n b i = steps_counted n b i.operation i.arguments i.targets

-- so many steps make so many records, collapses and faults
records-of : (o : Operation) (m k : ℕ) → m ≡ steps_made o k → m * one_if (makes_records o) ≡ records_made o k
records-of (operation.Applies g) m k h = omega arith
records-of (operation.Measurement l) m k h = omega (arith, h)
records-of (operation.QubitReset l) m k h = omega arith
records-of (operation.MeasurementReset l) m k h = omega (arith, h)
records-of operation.ProductMeasurement m k h = omega (arith, h)
records-of (operation.PauliError l) m k h = omega arith
records-of operation.CorrelatedError m k h = omega arith
records-of operation.DetectorDeclaration m k h = omega arith
records-of operation.ObservableInclude m k h = omega arith
records-of operation.Tick m k h = omega arith
records-of operation.QubitCoordinates m k h = omega arith
records-of operation.CoordinateShift m k h = omega arith

collapses-of : (o : Operation) (m k : ℕ) → m ≡ steps_made o k → m * one_if (makes_collapses o) ≡ collapses_made o k
collapses-of (operation.QubitReset l) m k h = omega (arith, h)
collapses-of (operation.Applies g) m k h = omega arith
collapses-of (operation.Measurement l) m k h = omega (arith, h)
collapses-of (operation.MeasurementReset l) m k h = omega (arith, h)
collapses-of operation.ProductMeasurement m k h = omega (arith, h)
collapses-of (operation.PauliError l) m k h = omega arith
collapses-of operation.CorrelatedError m k h = omega arith
collapses-of operation.DetectorDeclaration m k h = omega arith
collapses-of operation.ObservableInclude m k h = omega arith
collapses-of operation.Tick m k h = omega arith
collapses-of operation.QubitCoordinates m k h = omega arith
collapses-of operation.CoordinateShift m k h = omega arith

faults-of : (o : Operation) (flips : Bool) (m k : ℕ) → m ≡ steps_made o k → m * one_if (makes_faults o flips) ≡ faults_counted o flips k
faults-of (operation.PauliError l) flips m k h = omega (arith, h)
faults-of operation.CorrelatedError flips m k h = omega (arith, h)
faults-of (operation.Measurement l) true m k h = omega (arith, h)
faults-of (operation.MeasurementReset l) true m k h = omega (arith, h)
faults-of operation.ProductMeasurement true m k h = omega (arith, h)
faults-of (operation.Applies g) true m k h = omega arith
faults-of (operation.QubitReset l) true m k h = omega arith
faults-of operation.DetectorDeclaration true m k h = omega arith
faults-of operation.ObservableInclude true m k h = omega arith
faults-of operation.Tick true m k h = omega arith
faults-of operation.QubitCoordinates true m k h = omega arith
faults-of operation.CoordinateShift true m k h = omega arith
faults-of (operation.Measurement l) false m k h = omega arith
faults-of (operation.MeasurementReset l) false m k h = omega arith
faults-of operation.ProductMeasurement false m k h = omega arith
faults-of (operation.Applies g) false m k h = omega arith
faults-of (operation.QubitReset l) false m k h = omega arith
faults-of operation.DetectorDeclaration false m k h = omega arith
faults-of operation.ObservableInclude false m k h = omega arith
faults-of operation.Tick false m k h = omega arith
faults-of operation.QubitCoordinates false m k h = omega arith
faults-of operation.CoordinateShift false m k h = omega arith

pub new_records-made : (n : ℕ) (b : Before) (i : Instruction) → length (new_records n b i) ≡ record_count i
new_records-made n b i = new_records-counted n b i ∙ records-of i.operation _ _ (new_steps-made n b i)

pub new_faults-made : (n : ℕ) (b : Before) (i : Instruction) → length (new_faults n b i) ≡ fault_count i
new_faults-made n b i = new_faults-counted n b i ∙ faults-of i.operation (has_argument i) _ _ (new_steps-made n b i)

collapses-each : (r k f : ℕ) (steps : List ListedStep) → Each (Makes r k f) steps → length (filter is_collapse steps) ≡ length steps * k
collapses-each r k f [] h = omega arith
collapses-each r k f (s ∷ steps) h =
    by_choice (is_collapse s) h.0.collapses_are (collapses-each r k f steps h.1)
  where
    by_choice : (collapse : Bool) → (if collapse then 1 else 0) ≡ k → length (filter is_collapse steps) ≡ length steps * k → length (if collapse then s ∷ filter is_collapse steps else filter is_collapse steps) ≡ length (s ∷ steps) * k
    by_choice true one more = omega (arith, one, more)
    by_choice false none more = omega (arith, none, more)

pub new_collapses-made : (n : ℕ) (b : Before) (i : Instruction) → length (filter is_collapse (new_steps n b i)) ≡ collapse_count i
new_collapses-made n b i =
    collapses-each _ _ _ (new_steps n b i) (each_new n b i) ∙ collapses-of i.operation _ _ (new_steps-made n b i)

-- ---- all that are reached

-- what is made is as much as each instruction counts for
pub made-counted : {X : Type 0} (n : ℕ) (make : Before → Instruction → List X) (count : Instruction → ℕ) → ((b : Before) (i : Instruction) → length (make b i) ≡ count i) → (b : Before) (is : List Instruction) → length (made_of n make b is) ≡ sum_by count is
unfolding made_of
made-counted n make count h b [] = refl
made-counted n make count h b (i ∷ is) =
    omega (arith, length-append (make b i) (made_of n make (after n b i) is), h b i, made-counted n make count h (after n b i) is, sum_by-cons count i is)

-- what is made of what is made
made-flat : {X Y : Type 0} (n : ℕ) (make : Before → Instruction → List X) (f : List X → List Y) → f [] ≡ [] → ((xs ys : List X) → f (xs ++ ys) ≡ f xs ++ f ys) → (b : Before) (is : List Instruction) → f (made_of n make b is) ≡ made_of n (λ c i. f (make c i)) b is
unfolding made_of
made-flat n make f none both b [] = none
made-flat n make f none both b (i ∷ is) =
    both (make b i) (made_of n make (after n b i) is) ∙ ap (λ ys. f (make b i) ++ ys) (made-flat n make f none both (after n b i) is)

filter-append : (xs ys : List ListedStep) → filter is_collapse (xs ++ ys) ≡ filter is_collapse xs ++ filter is_collapse ys
filter-append [] ys = refl
filter-append (x ∷ xs) ys = by_choice (is_collapse x) (filter-append xs ys)
  where
    by_choice : (collapse : Bool) → filter is_collapse (xs ++ ys) ≡ filter is_collapse xs ++ filter is_collapse ys → (if collapse then x ∷ filter is_collapse (xs ++ ys) else filter is_collapse (xs ++ ys)) ≡ (if collapse then x ∷ filter is_collapse xs else filter is_collapse xs) ++ filter is_collapse ys
    by_choice true h = ap (λ zs. x ∷ zs) h
    by_choice false h = h

-- the lengths of what a circuit lists
pub record HasLengths (t : Tree) (program : Listing) : Type 0 where
  pub records : program.records ≡ record_total t
  pub collapses : program.collapses ≡ collapse_total t
  pub faults : length program.faults ≡ fault_total t
  pub steps : length program.steps ≡ made_total t
  pub detectors : length program.detectors ≡ detector_total t
  pub observables : length program.observables ≡ observable_total t

operation-detectors : (r : ℕ) (o : Operation) (ts : List Target) → length (operation_detectors r o ts) ≡ detectors_made o
operation-detectors r operation.DetectorDeclaration ts = refl
operation-detectors r o ts = refl

pub lengths : (t : Tree) → HasLengths t (listing_of t)
lengths t =
    let n = qubit_total t in
    record {
      records =
          ap length (made-flat n (new_steps n) (flat_map step_records) refl (flat_map-append step_records) at_start (reached t))
          ∙ made-counted n (new_records n) record_count (new_records-made n) at_start (reached t)
          ∙ sum-reached record_count t;
      collapses =
          ap length (made-flat n (new_steps n) (filter is_collapse) refl filter-append at_start (reached t))
          ∙ made-counted n (λ b i. filter is_collapse (new_steps n b i)) collapse_count (new_collapses-made n) at_start (reached t)
          ∙ sum-reached collapse_count t;
      faults = made-counted n (new_faults n) fault_count (new_faults-made n) at_start (reached t) ∙ sum-reached fault_count t;
      steps = made-counted n (new_steps n) made_count (new_steps-made n) at_start (reached t) ∙ sum-reached made_count t;
      detectors =
          made-counted n (λ b i. operation_detectors b.records i.operation i.targets) detector_count (λ b i. operation-detectors b.records i.operation i.targets) at_start (reached t)
          ∙ sum-reached detector_count t;
      observables = length-map-range_with_len _ 0 (observable_total t);
    }
