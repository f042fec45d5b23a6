-- What a circuit declares is what its program lists: the detectors, and what is added to each observable. And instructions
-- that neither make records nor declare anything may be left out.
use Rattle.std.proofs.Common.{◌≡◌, ◌+◌, ◌*◌, ◌≤◌, ◌==◌, ℕ, zero, suc, Bool, true, false, if◌then◌else◌, List, [], ◌∷◌, ◌++◌, length, map, refl, sym, ap, ap₂, ◌∙◌, subst, append_assoc, append-nil, arith}
use Rattle.std.specs.Prelude.{⊤, All}
use Rattle.std.specs.List.{filter, flat_map, range_with_len}
use Rattle.std.proofs.lemmas.List.{length-append}
use Rattle.std.proofs.lemmas.List.Concat.{flat_map-append}
use Rattle.std.proofs.lemmas.List.Elements.{All-append, All-cons, All-nil}
use Rattle.std.proofs.lemmas.List.FromFn.{length-map-range_with_len}
use Rattle.cursor.specs.Chosen.{chosen_in}
use Rattle.cursor.proofs.ChosenLemmas.{chosen_filtered}
use Rattle.step_model.specs.Listing.{Listing, step_records}
use Rattle.stim_lexer.specs.Reached.{copies, instructions_of, reached}
use Rattle.stim_lexer.specs.Trees.{Nothing, Then, Block}
use Rattle.stim_parser.specs.declared.operation.Operation.{Operation}
use Rattle.stim_parser.specs.declared.operation.Operation.TheVariants as operation
use Rattle.stim_parser.specs.declared.target.Target.{Target}
use Rattle.stim_parser.specs.Limits.{products_of}
use Rattle.stim_parser.specs.Trees.{Tree}
use Rattle.stim_parser.specs.Verdicts.{Instruction}
use Rattle.circuit_walk.specs.Before.{Before}
use Rattle.circuit_walk.specs.Declarations.{AreDeclarations, Declared, Detector, Inclusion, IsThere, added_to, declarations_of, detectors_in, operation_declares}
use Rattle.circuit_walk.specs.Makes.{makes_records, one_if}
use Rattle.circuit_walk.specs.Meaning.{after, at_start, listing_of, made_in, made_of, new_records, new_steps}
use Rattle.circuit_walk.specs.StepsMade.{operation_made}
use Rattle.circuit_walk.specs.TargetsMade.{operation_adds, operation_detectors, records_named}
use Rattle.circuit_walk.specs.Totals.{observable_total, observables_to, qubit_total}
use Rattle.circuit_walk.specs.private.Declaring.{counted, declared_by, declared_from, is_declarer, is_declaring, operation_records, record_count}
use Rattle.circuit_walk.proofs.CircuitInstructions.{greatest-append}
use Rattle.circuit_walk.proofs.CountLemmas.{length-numbered, new_records-counted}

-- ---- how many records instructions make

one_each : (m k : ℕ) → m ≡ k → m * 1 ≡ k
one_each m k h = omega (arith, h)

steps-counted : (n : ℕ) (b : Before) (o : Operation) (arguments : List (List ℕ)) (ts : List Target) → length (operation_made n b o arguments ts) * one_if (makes_records o) ≡ operation_records o ts
steps-counted n b (operation.Measurement l) arguments ts = one_each _ _ (length-numbered 0 _ ts)
steps-counted n b (operation.MeasurementReset l) arguments ts = one_each _ _ (length-numbered 0 _ ts)
steps-counted n b operation.ProductMeasurement arguments ts = one_each _ _ (length-numbered 0 _ (products_of ts))
steps-counted n b (operation.Applies g) arguments ts = omega arith
steps-counted n b (operation.QubitReset l) arguments ts = omega arith
steps-counted n b (operation.PauliError l) arguments ts = omega arith
steps-counted n b operation.CorrelatedError arguments ts = omega arith
steps-counted n b operation.DetectorDeclaration arguments ts = omega arith
steps-counted n b operation.ObservableInclude arguments ts = omega arith
steps-counted n b operation.Tick arguments ts = omega arith
steps-counted n b operation.QubitCoordinates arguments ts = omega arith
steps-counted n b operation.CoordinateShift arguments ts = omega arith

records-counted : (n : ℕ) (b : Before) (i : Instruction) → length (new_records n b i) ≡ record_count i
records-counted n b i = new_records-counted n b i ∙ steps-counted n b i.operation i.arguments i.targets

after-records : (n : ℕ) (b : Before) (i : Instruction) → (after n b i).records ≡ b.records + record_count i
after-records n b i = ap (λ k. b.records + k) (records-counted n b i)

all-records : (n : ℕ) (b : Before) (is : List Instruction) → length (flat_map step_records (made_of n (new_steps n) b is)) ≡ counted is
unfolding made_of counted
all-records n b [] = refl
all-records n b (i ∷ is) =
    let later = made_of n (new_steps n) (after n b i) is in
    omega (
      arith,
      ap length (flat_map-append step_records (new_steps n b i) later),
      length-append (new_records n b i) (flat_map step_records later),
      records-counted n b i,
      all-records n (after n b i) is,
    )

-- ---- what instructions declare, with the number of records before each

abbrev declares : Before → Instruction → List Declared
declares b i = operation_declares b.records i.operation i.arguments i.targets

from-made : (n : ℕ) (b : Before) (is : List Instruction) → declared_from b.records is ≡ made_of n declares b is
unfolding made_of declared_from
from-made n b [] = refl
from-made n b (i ∷ is) =
    ap (λ (later : List Declared). declares b i ++ later)
    (ap (λ r. declared_from r is) (sym (after-records n b i)) ∙ from-made n (after n b i) is)

-- ---- instructions that are left out

none-declared : (r : ℕ) (o : Operation) (arguments : List (List ℕ)) (ts : List Target) → is_declaring o ≡ false → (operation_declares r o arguments ts ≡ []) × (operation_records o ts ≡ 0)
none-declared r (operation.Measurement l) arguments ts h = absurd cc
none-declared r (operation.MeasurementReset l) arguments ts h = absurd cc
none-declared r operation.ProductMeasurement arguments ts h = absurd cc
none-declared r operation.DetectorDeclaration arguments ts h = absurd cc
none-declared r operation.ObservableInclude arguments ts h = absurd cc
none-declared r o arguments ts h = (refl, refl)

-- with those that are chosen, or without the others
record IsLeftOut (r : ℕ) (all chosen : List Instruction) : Type 0 where
  pub declared_same : declared_from r chosen ≡ declared_from r all
  pub counted_same : counted chosen ≡ counted all

left_out : (r : ℕ) (is : List Instruction) → IsLeftOut r is (filter is_declarer is)
unfolding declared_from counted
left_out r [] = record { declared_same = refl; counted_same = refl }
left_out r (i ∷ is) = by_choice (left_out (r + record_count i) is) (left_out r is) (is_declarer i) refl
  where
    kept : Bool → List Instruction
    kept chosen = if chosen then i ∷ filter is_declarer is else filter is_declarer is

    by_choice : IsLeftOut (r + record_count i) is (filter is_declarer is) → IsLeftOut r is (filter is_declarer is) → (chosen : Bool) → is_declarer i ≡ chosen → IsLeftOut r (i ∷ is) (kept (is_declarer i))
    by_choice with_it without true e =
        subst (λ (chosen : Bool). IsLeftOut r (i ∷ is) (kept chosen)) (sym e)
        (record {
          declared_same = ap (λ (ds : List Declared). declared_by r i ++ ds) with_it.declared_same;
          counted_same = ap (λ k. record_count i + k) with_it.counted_same;
        })
    by_choice with_it without false e =
        let none = none-declared r i.operation i.arguments i.targets e in
        let same : r ≡ r + record_count i = omega (arith, none.1) in
        subst (λ (chosen : Bool). IsLeftOut r (i ∷ is) (kept chosen)) (sym e)
        (record {
          declared_same =
              without.declared_same
              ∙ ap (λ m. declared_from m is) same
              ∙ ap (λ (ds : List Declared). ds ++ declared_from (r + record_count i) is) (sym none.0);
          counted_same = omega (arith, without.counted_same, none.1);
        })

pub declared-append : (r : ℕ) (is js : List Instruction) → declared_from r (is ++ js) ≡ declared_from r is ++ declared_from (r + counted is) js
unfolding declared_from counted
declared-append r [] js = let same : r ≡ r + 0 = omega arith in ap (λ m. declared_from m js) same
declared-append r (i ∷ is) js =
    let same : r + record_count i + counted is ≡ r + (record_count i + counted is) = omega arith in
    ap (λ (ds : List Declared). declared_by r i ++ ds) (declared-append (r + record_count i) is js ∙ ap (λ m. declared_from (r + record_count i) is ++ declared_from m js) same)
    ∙ sym (append_assoc (declared_by r i) (declared_from (r + record_count i) is) (declared_from (r + (record_count i + counted is)) js))

pub counted-append : (is js : List Instruction) → counted (is ++ js) ≡ counted is + counted js
unfolding counted
counted-append [] js = omega arith
counted-append (i ∷ is) js = omega (arith, counted-append is js)

-- ---- detectors and observables

detectors-append : (xs ys : List Declared) → detectors_in (xs ++ ys) ≡ detectors_in xs ++ detectors_in ys
detectors-append [] ys = refl
detectors-append (Detector records ∷ xs) ys = ap (λ (ds : List (List ℕ)). records ∷ ds) (detectors-append xs ys)
detectors-append (Inclusion k records ∷ xs) ys = detectors-append xs ys

added-append : (k : ℕ) (xs ys : List Declared) → added_to k (xs ++ ys) ≡ added_to k xs ++ added_to k ys
added-append k [] ys = refl
added-append k (Detector records ∷ xs) ys = added-append k xs ys
added-append k (Inclusion observable records ∷ xs) ys =
    let here = if observable == k then records else [] in
    ap (λ (rs : List ℕ). here ++ rs) (added-append k xs ys) ∙ sym (append_assoc here (added_to k xs) (added_to k ys))

one-detectors : (r : ℕ) (o : Operation) (arguments : List (List ℕ)) (ts : List Target) → operation_detectors r o ts ≡ detectors_in (operation_declares r o arguments ts)
one-detectors r operation.DetectorDeclaration arguments ts = refl
one-detectors r operation.ObservableInclude arguments ts = refl
one-detectors r o arguments ts = refl

one-adds : (k r : ℕ) (o : Operation) (arguments : List (List ℕ)) (ts : List Target) → operation_adds k r o arguments ts ≡ added_to k (operation_declares r o arguments ts)
one-adds k r operation.DetectorDeclaration arguments ts = refl
one-adds k r operation.ObservableInclude arguments ts = sym (append-nil (operation_adds k r operation.ObservableInclude arguments ts))
one-adds k r o arguments ts = refl

made-detectors : (n : ℕ) (b : Before) (is : List Instruction) → made_of n (λ b i. operation_detectors b.records i.operation i.targets) b is ≡ detectors_in (made_of n declares b is)
unfolding made_of
made-detectors n b [] = refl
made-detectors n b (i ∷ is) =
    ap₂ ◌++◌ (one-detectors b.records i.operation i.arguments i.targets) (made-detectors n (after n b i) is)
    ∙ sym (detectors-append (declares b i) (made_of n declares (after n b i) is))

made-adds : (n k : ℕ) (b : Before) (is : List Instruction) → made_of n (λ b i. operation_adds k b.records i.operation i.arguments i.targets) b is ≡ added_to k (made_of n declares b is)
unfolding made_of
made-adds n k b [] = refl
made-adds n k b (i ∷ is) =
    ap₂ ◌++◌ (one-adds k b.records i.operation i.arguments i.targets) (made-adds n k (after n b i) is)
    ∙ sym (added-append k (declares b i) (made_of n declares (after n b i) is))

map-same : (f g : ℕ → List ℕ) (ks : List ℕ) → ((k : ℕ) → f k ≡ g k) → map f ks ≡ map g ks
map-same f g [] h = refl
map-same f g (k ∷ ks) h = ap₂ (λ (x : List ℕ) (xs : List (List ℕ)). x ∷ xs) (h k) (map-same f g ks h)

-- ---- observables are there

-- each of these instructions names one of the first m observables, or none
abbrev EachNames : ℕ → List Instruction → Type 0
EachNames m [] = ⊤
EachNames m (i ∷ is) = (observables_to i.operation i.arguments ≤ m) × EachNames m is

names-append : (m : ℕ) (is js : List Instruction) → EachNames m is → EachNames m js → EachNames m (is ++ js)
names-append m [] js h k = k
names-append m (i ∷ is) js h k = (h.0, names-append m is js h.1 k)

names-copies : (m turns : ℕ) (is : List Instruction) → EachNames m is → EachNames m (copies turns is)
names-copies m zero is h = tt
names-copies m (suc turns) is h = names-append m is (copies turns is) h (names-copies m turns is h)

names_within : (m : ℕ) (t : Tree) → observable_total t ≤ m → EachNames m (reached t)
names_within m Nothing le = tt
names_within m (Then i rest) le = (omega (arith, le), names_within m rest (omega (arith, le)))
names_within m (Block line turns body rest) le =
    let both = greatest-append (λ i. observables_to i.operation i.arguments) (instructions_of body) (instructions_of rest) in
    names-append m (copies turns (reached body)) (reached rest)
    (names-copies m turns (reached body) (names_within m body (omega (arith, le, both))))
    (names_within m rest (omega (arith, le, both)))

one-there : (listing : Listing) (r : ℕ) (o : Operation) (arguments : List (List ℕ)) (ts : List Target) → observables_to o arguments ≤ length listing.observables → All (IsThere listing) (operation_declares r o arguments ts)
one-there listing r operation.DetectorDeclaration arguments ts le =
    All-cons (IsThere listing) (Detector (records_named r ts)) [] tt (All-nil (IsThere listing))
one-there listing r operation.ObservableInclude arguments ts le =
    All-cons (IsThere listing) (Inclusion _ (records_named r ts)) [] (omega (arith, le)) (All-nil (IsThere listing))
one-there listing r o arguments ts le = All-nil (IsThere listing)

made-there : (listing : Listing) (n : ℕ) (b : Before) (is : List Instruction) → EachNames (length listing.observables) is → All (IsThere listing) (made_of n declares b is)
unfolding made_of
made-there listing n b [] h = All-nil (IsThere listing)
made-there listing n b (i ∷ is) h =
    All-append (IsThere listing) (declares b i) (made_of n declares (after n b i) is)
    (one-there listing b.records i.operation i.arguments i.targets h.0)
    (made-there listing n (after n b i) is h.1)

-- ---- of a circuit

pub are_declarations : (tree : Tree) → AreDeclarations (listing_of tree) (declarations_of tree)
are_declarations tree =
    let n = qubit_total tree in
    let listing = listing_of tree in
    let count : length listing.observables ≡ observable_total tree =
    length-map-range_with_len (λ k. made_in tree (λ b i. operation_adds k b.records i.operation i.arguments i.targets)) 0 (observable_total tree) in
    record {
      detectors = made-detectors n at_start (reached tree);
      observables =
          map-same _ (λ k. added_to k (declarations_of tree)) (range_with_len 0 (observable_total tree)) (λ k. made-adds n k at_start (reached tree))
          ∙ ap (λ m. map (λ k. added_to k (declarations_of tree)) (range_with_len 0 m)) (sym count);
      there = made-there listing n at_start (reached tree) (names_within (length listing.observables) tree (omega (arith, count)));
    }

-- so are those of the instructions that the pass goes over
pub declarers_declare : (tree : Tree) → AreDeclarations (listing_of tree) (declared_from 0 (chosen_in is_declarer tree))
declarers_declare tree =
    let same =
    ap (declared_from 0) (chosen_filtered is_declarer tree)
    ∙ (left_out 0 (reached tree)).declared_same
    ∙ from-made (qubit_total tree) at_start (reached tree) in
    subst (AreDeclarations (listing_of tree)) (sym same) (are_declarations tree)

-- which make all records
pub declarers_count : (tree : Tree) → counted (chosen_in is_declarer tree) ≡ (listing_of tree).records
declarers_count tree =
    ap counted (chosen_filtered is_declarer tree)
    ∙ (left_out 0 (reached tree)).counted_same
    ∙ sym (all-records (qubit_total tree) at_start (reached tree))
