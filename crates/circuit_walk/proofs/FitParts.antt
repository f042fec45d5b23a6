-- What a step of a well-formed program names: its qubits, its letters, its record and the fault that flips that.
use Rattle.std.proofs.Common.{◌≡◌, ◌≢◌, ◌≤◌, ◌<◌, ◌+◌, ◌==◌, nat_lt, ℕ, zero, suc, Bool, true, false, not, ◌&&◌, ◌||◌, List, [], ◌∷◌, ◌++◌, length, length-append, Some, refl, sym, ap, ◌∙◌, subst, arith}
use Rattle.std.specs.Prelude.{All, slice_get}
use Rattle.std.specs.List.{list_any, range_with_len}
use Rattle.std.proofs.lemmas.Bool.{and_parts, eqb-false, eqb-true, ltb-true, not-true}
use Rattle.std.proofs.lemmas.List.Elements.{All-cons, All-head, All-nil, All-tail}
use Rattle.std.proofs.lemmas.List.FromFn.{length-range_with_len}
use Rattle.gate_table.specs.declared.gate.Gate.{Gate}
use Rattle.gate_table.specs.Images.{arity_of}
use Rattle.pauli_word.specs.declared.letter.Letter.{Letter}
use Rattle.pauli_word.specs.declared.letter.Letter.TheVariants.{I}
use Rattle.pauli_word.specs.Words.{lone_letter, no_letters}
use Rattle.step_model.specs.Listing.{Listing, ListedStep, Collapse, Two, One, Feedback, Effect, Applies, Flips, Measured, Recorded, effect_at, is_I, step_records}
use Rattle.step_model.specs.WellFormed.{IsWellFormed, feeds_earlier, flip_fits, flips_record, is_earlier, measured_fits, records_made, step_fits, word_fits}
use Rattle.circuit_walk.specs.Steps.{measured}

-- ---- letters

no_letter : (a : Letter) → is_I a ≡ false → a ≢ I
no_letter a h = λ e. both (sym (ap is_I e) ∙ h)
  where
    both : true ≡ false → ⊥
    both e = cc

none_some : (n : ℕ) → list_any (λ a. not (is_I a)) (no_letters n) ≡ false
none_some zero = refl
none_some (suc n) = none_some n

some_lone : (n q : ℕ) (a : Letter) → list_any (λ b. not (is_I b)) (lone_letter n q a) ≡ true → (is_I a ≡ false) × (q < n)
some_lone zero q a h = absurd cc
some_lone (suc n) zero a h = (by_letter (is_I a) (ap (λ more. not (is_I a) || more) (sym (none_some n)) ∙ h), omega arith)
  where
    by_letter : (b : Bool) → (not b || false) ≡ true → b ≡ false
    by_letter true e = absurd cc
    by_letter false e = refl
some_lone (suc n) (suc q) a h =
    let rest = some_lone n q a h in (rest.0, omega (arith, rest.1))

-- a letter at a qubit that makes a word
pub lone_named : (n q : ℕ) (a : Letter) → word_fits n (lone_letter n q a) ≡ true → (a ≢ I) × (q < n)
lone_named n q a h =
    let some = some_lone n q a (and_parts (length (lone_letter n q a) == n) _ h).1 in
    (no_letter a some.0, some.1)

pub measured_named : (n : ℕ) (reset : Bool) (a : Letter) (q : ℕ) → measured_fits n (measured n reset a q) ≡ true → (a ≢ I) × (q < n)
measured_named n true a q h =
    let parts = and_parts (not (is_I a)) (nat_lt q n) h in
    (no_letter a (not-true (is_I a) parts.0), ltb-true q n parts.1)
measured_named n false a q h = lone_named n q a h

-- ---- gates

all_four : (a b c d : Bool) → (a && b && c && d) ≡ true → (a ≡ true) × (b ≡ true) × (c ≡ true) × (d ≡ true)
all_four true true true true h = (refl, refl, refl, refl)
all_four a b c d h = absurd cc

pub one_named : (program : Listing) (g : Gate) (q : ℕ) → step_fits program (One g q) ≡ true → (arity_of g ≡ 1) × (q < program.qubits)
one_named program g q h =
    let parts = and_parts (arity_of g == 1) (nat_lt q program.qubits) h in
    (eqb-true (arity_of g) 1 parts.0, ltb-true q program.qubits parts.1)

pub two_named : (program : Listing) (g : Gate) (a b : ℕ) → step_fits program (Two g a b) ≡ true → (arity_of g ≡ 2) × (a < program.qubits) × (b < program.qubits) × (a ≢ b)
two_named program g a b h =
    let parts = all_four (arity_of g == 2) (nat_lt a program.qubits) (nat_lt b program.qubits) (not (a == b)) h in
    (eqb-true (arity_of g) 2 parts.0, ltb-true a program.qubits parts.1, ltb-true b program.qubits parts.2, eqb-false a b (not-true (a == b) parts.3))

-- ---- records

behind : {X : Type 0} (P : X → Type 0) (xs ys : List X) → All P (xs ++ ys) → All P ys
behind P [] ys h = h
behind P (x ∷ xs) ys h = behind P xs ys (All-tail P x (xs ++ ys) h)

range_below : (a n m : ℕ) → a + n ≤ m → All (λ r. r < m) (range_with_len a n)
range_below a zero m h = All-nil (λ r. r < m)
range_below a (suc n) m h = All-cons (λ r. r < m) a (range_with_len (a + 1) n) (omega (arith, h)) (range_below (a + 1) n m (omega (arith, h)))

among : (m : ℕ) (steps : List ListedStep) (p : ℕ) (what : Measured) (r : Recorded) → All (λ r. r < m) (records_made steps) → slice_get steps p ≡ Some (Collapse what (Some r)) → r.number < m
among m [] p what r h got = cc
among m (s ∷ steps) zero what r h got =
    let same : s ≡ Collapse what (Some r) = cc in
    All-head (λ r. r < m) r.number (records_made steps) (subst (λ x. All (λ r. r < m) (step_records x ++ records_made steps)) same h)
among m (s ∷ steps) (suc p) what r h got = among m steps p what r (behind (λ r. r < m) (step_records s) (records_made steps) h) got

pub record_below : (program : Listing) → IsWellFormed program → (p : ℕ) (what : Measured) (r : Recorded) → slice_get program.steps p ≡ Some (Collapse what (Some r)) → r.number < program.records
record_below program fine p what r got =
    among program.records program.steps p what r (subst (All (λ r. r < program.records)) (sym fine.records_in_order) (range_below 0 program.records program.records (omega arith))) got

fed : (made : ℕ) (steps : List ListedStep) (p : ℕ) (w : List Letter) (r : ℕ) → feeds_earlier made steps ≡ true → slice_get steps p ≡ Some (Feedback w r) → r < made + length (records_made steps)
fed made [] p w r h got = cc
fed made (s ∷ steps) zero w r h got =
    let same : s ≡ Feedback w r = cc in
    let parts = and_parts (is_earlier made s) (feeds_earlier (made + length (step_records s)) steps) h in
    omega (arith, ltb-true r made (sym (ap (is_earlier made) same) ∙ parts.0))
fed made (s ∷ steps) (suc p) w r h got =
    let parts = and_parts (is_earlier made s) (feeds_earlier (made + length (step_records s)) steps) h in
    omega (arith, fed (made + length (step_records s)) steps p w r parts.1 got, length-append (step_records s) (records_made steps))

pub feedback_below : (program : Listing) → IsWellFormed program → (p : ℕ) (w : List Letter) (r : ℕ) → slice_get program.steps p ≡ Some (Feedback w r) → r < program.records
feedback_below program fine p w r got =
    omega (arith, fed 0 program.steps p w r fine.feedback_earlier got, ap length fine.records_in_order, length-range_with_len 0 program.records)

-- ---- the fault that flips a record

does_flip : (r : ℕ) (e : Effect) → flips_record r e ≡ true → e ≡ Flips r
does_flip r (Applies terms) h = absurd cc
does_flip r (Flips s) h = ap Flips (sym (eqb-true r s h))

pub flip_named : (program : Listing) (r f : ℕ) → flip_fits program r (Some f) ≡ true → effect_at program f ≡ Flips r
flip_named program r f h = does_flip r (effect_at program f) (and_parts (nat_lt f (length program.faults)) _ h).1
