-- Where no line reaches back before the first record, each feedback is by a record that was made before it.
use Rattle.std.proofs.Common.{◌≡◌, ℕ, ◌+◌, ◌-◌, ◌≤◌, ◌==◌, Bool, true, false, if◌then◌else◌, List, [], ◌∷◌, ◌++◌, length, length-append, map, refl, ap, ◌∙◌, arith}
use Rattle.std.specs.Prelude.{⊤}
use Rattle.std.specs.List.{flat_map, list_all}
use Rattle.std.proofs.lemmas.Bool.{and_from, and_parts, leb-true, lt-ltb, ltb-false, ltb-true, or_parts}
use Rattle.gate_table.specs.declared.gate.Gate.{Gate}
use Rattle.gate_table.specs.Images.{arity_of}
use Rattle.step_model.specs.Listing.{ListedStep, One, Two, Collapse, Fault, Feedback, step_records}
use Rattle.step_model.specs.WellFormed.{feeds_earlier, is_earlier}
use Rattle.stim_parser.specs.declared.operation.Operation.{Operation}
use Rattle.stim_parser.specs.declared.operation.Operation.TheVariants.{Applies, Measurement, QubitReset, MeasurementReset, ProductMeasurement, PauliError, CorrelatedError}
use Rattle.stim_parser.specs.declared.target.Target.{Target}
use Rattle.stim_parser.specs.declared.target.Target.TheVariants.{Back}
use Rattle.stim_parser.specs.Circuits.{target_is_written}
use Rattle.stim_parser.specs.Limits.{products_of, qubit_of}
use Rattle.stim_parser.specs.Verdicts.{Instruction}
use Rattle.circuit_walk.specs.Before.{Before}
use Rattle.circuit_walk.specs.Meaning.{after, made_of, new_steps}
use Rattle.circuit_walk.specs.Refusals.{is_before_start, reaches_far}
use Rattle.circuit_walk.specs.StepsMade.{numbered_from, operation_made, pair_made, pairs_made}
use Rattle.circuit_walk.specs.Targets.{is_inverted, is_product_inverted}
use Rattle.circuit_walk.proofs.MadeNumbers.{collapse_with}
use Rattle.circuit_walk.proofs.SoundInstructions.{AreSound}

-- ---- records that there are

-- a record target is one back at least, and not before the first record
abbrev pub IsThere : ℕ → Target → Type 0
IsThere r (Back k) = (1 ≤ k) × (k ≤ r)
IsThere r target = ⊤

abbrev pub AreThere : ℕ → List Target → Type 0
AreThere r [] = ⊤
AreThere r (t ∷ ts) = IsThere r t × AreThere r ts

is_there : (r : ℕ) (t : Target) → target_is_written t ≡ true → is_before_start r t ≡ false → IsThere r t
is_there r (Back k) h near = (leb-true 1 k h, ltb-false r k near)
is_there r t h near = tt

pub are_there : (r : ℕ) (ts : List Target) → list_all target_is_written ts ≡ true → reaches_far r ts ≡ false → AreThere r ts
are_there r [] h near = tt
are_there r (t ∷ ts) h near =
    let one = and_parts (target_is_written t) (list_all target_is_written ts) h in
    let close = or_parts (is_before_start r t) (reaches_far r ts) near in
    (is_there r t one.0 close.0, are_there r ts one.1 close.1)

-- ---- the steps of an instruction

numbered_earlier : {X : Type 0} (r : ℕ) (f : ℕ → X → ListedStep) → ((k : ℕ) (x : X) → is_earlier r (f k x) ≡ true) → (k : ℕ) (xs : List X) → list_all (is_earlier r) (numbered_from k f xs) ≡ true
numbered_earlier r f each k [] = refl
numbered_earlier r f each k (x ∷ xs) =
    and_from (is_earlier r (f k x)) (list_all (is_earlier r) (numbered_from (k + 1) f xs)) (each k x) (numbered_earlier r f each (k + 1) xs)

mapped_earlier : {X : Type 0} (r : ℕ) (f : X → ListedStep) → ((x : X) → is_earlier r (f x) ≡ true) → (xs : List X) → list_all (is_earlier r) (map f xs) ≡ true
mapped_earlier r f each [] = refl
mapped_earlier r f each (x ∷ xs) =
    and_from (is_earlier r (f x)) (list_all (is_earlier r) (map f xs)) (each x) (mapped_earlier r f each xs)

pair_earlier : (n r : ℕ) (g : Gate) (a b : Target) → IsThere r a → IsThere r b → is_earlier r (pair_made n r g a b) ≡ true
pair_earlier n r g (Back k) b h j = lt-ltb (r - k) r (omega (arith, h.0, h.1))
pair_earlier n r g a (Back k) h j = lt-ltb (r - k) r (omega (arith, j.0, j.1))
pair_earlier n r g a b h j = refl

gates_earlier : (n r : ℕ) (g : Gate) (alone : Bool) (ts : List Target) → AreThere r ts → list_all (is_earlier r) (if alone then map (λ target. One g (qubit_of target)) ts else pairs_made n r g ts) ≡ true
gates_earlier n r g true ts h = mapped_earlier r (λ target. One g (qubit_of target)) (λ t. refl) ts
gates_earlier n r g false [] h = refl
gates_earlier n r g false (a ∷ []) h = refl
gates_earlier n r g false (a ∷ b ∷ ts) h =
    and_from (is_earlier r (pair_made n r g a b)) (list_all (is_earlier r) (pairs_made n r g ts))
    (pair_earlier n r g a b h.0 h.1.0) (gates_earlier n r g false ts h.1.1)

operation_earlier : (n : ℕ) (b : Before) (o : Operation) (arguments : List (List ℕ)) (ts : List Target) → AreThere b.records ts → list_all (is_earlier b.records) (operation_made n b o arguments ts) ≡ true
operation_earlier n b (Applies g) arguments ts h = gates_earlier n b.records g (arity_of g == 1) ts h
operation_earlier n b (Measurement l) arguments ts h =
    numbered_earlier b.records (collapse_with b arguments _ is_inverted) (λ k x. refl) 0 ts
operation_earlier n b (QubitReset l) arguments ts h = mapped_earlier b.records _ (λ t. refl) ts
operation_earlier n b (MeasurementReset l) arguments ts h =
    numbered_earlier b.records (collapse_with b arguments _ is_inverted) (λ k x. refl) 0 ts
operation_earlier n b ProductMeasurement arguments ts h =
    numbered_earlier b.records (collapse_with b arguments _ is_product_inverted) (λ k x. refl) 0 (products_of ts)
operation_earlier n b (PauliError l) arguments ts h = numbered_earlier b.records (λ f target. Fault f) (λ k t. refl) b.faults ts
operation_earlier n b CorrelatedError arguments ts h = refl
operation_earlier n b o arguments ts h = refl

-- ---- steps one after another

-- what is earlier than a record is earlier than a later one
earlier-later : (r made : ℕ) (s : ListedStep) → r ≤ made → is_earlier r s ≡ true → is_earlier made s ≡ true
earlier-later r made (Feedback w k) le h = lt-ltb k made (omega (arith, ltb-true k r h, le))
earlier-later r made (One g q) le h = refl
earlier-later r made (Two g p q) le h = refl
earlier-later r made (Collapse m x) le h = refl
earlier-later r made (Fault f) le h = refl

-- steps that feed back by records before r, where as many or more were made, and then others
fed : (r made : ℕ) (steps later : List ListedStep) → r ≤ made → list_all (is_earlier r) steps ≡ true → feeds_earlier (made + length (flat_map step_records steps)) later ≡ true → feeds_earlier made (steps ++ later) ≡ true
fed r made [] later le h k =
    let same : made ≡ made + 0 = omega arith in ap (λ m. feeds_earlier m later) same ∙ k
fed r made (s ∷ steps) later le h k =
    let parts = and_parts (is_earlier r s) (list_all (is_earlier r) steps) h in
    let next = made + length (step_records s) in
    let count : next + length (flat_map step_records steps) ≡ made + length (flat_map step_records (s ∷ steps)) = omega (arith, length-append (step_records s) (flat_map step_records steps)) in
    and_from (is_earlier made s) (feeds_earlier next (steps ++ later)) (earlier-later r made s le parts.0)
    (fed r next steps later (omega (arith, le)) parts.1 (ap (λ m. feeds_earlier m later) count ∙ k))

pub feedback_earlier : (n total : ℕ) (b : Before) (is : List Instruction) → AreSound n total b is → feeds_earlier b.records (made_of n (new_steps n) b is) ≡ true
unfolding made_of
feedback_earlier n total b [] h = refl
feedback_earlier n total b (i ∷ is) h =
    fed b.records b.records (new_steps n b i) (made_of n (new_steps n) (after n b i) is) (omega arith)
    (operation_earlier n b i.operation i.arguments i.targets (are_there b.records i.targets h.0.fits_on.fits.targets_written h.0.near))
    (feedback_earlier n total (after n b i) is h.1)
