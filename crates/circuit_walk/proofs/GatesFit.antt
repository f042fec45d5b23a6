-- The steps of a gate fit: it has as many qubits as its step names, all of them the circuit's, and the two of a pair differ;
-- of a pair with a record the other one is a qubit.
use Rattle.std.proofs.Common.{◌≡◌, ℕ, ◌≤◌, ◌==◌, ◌&&◌, Bool, true, false, nat_lt, not, List, [], ◌∷◌, map, refl, arith}
use Rattle.std.specs.Prelude.{if◌then◌else◌}
use Rattle.std.specs.List.{list_all}
use Rattle.std.proofs.lemmas.Bool.{and_from, and_parts, eq-eqb, false≢true, lt-ltb, not-true, or_left, or_parts}
use Rattle.std.proofs.Math.Bool.{and-false}
use Rattle.gate_table.specs.declared.gate.Gate.{Gate}
use Rattle.gate_table.specs.declared.gate.Gate.TheVariants as gate
use Rattle.gate_table.specs.Images.{arity_of}
use Rattle.gate_table.proofs.Arity.{two_unless_one}
use Rattle.step_model.specs.Listing.{Listing, One, is_I}
use Rattle.step_model.specs.WellFormed.{step_fits}
use Rattle.stim_parser.specs.declared.target.Target.{Target}
use Rattle.stim_parser.specs.declared.target.Target.TheVariants.{Plain, Back}
use Rattle.stim_parser.specs.Instructions.{gate_targets}
use Rattle.stim_parser.specs.Limits.{are_of_form, has_same_qubit, is_back, is_plain, is_plain_or_back, is_same_qubit, qubit_of, some_pair}
use Rattle.circuit_walk.specs.StepsMade.{fed_letter, gate_made, pair_made, pairs_made}
use Rattle.circuit_walk.specs.Totals.{qubits_to}
use Rattle.circuit_walk.proofs.TargetQubits.{plain_below, qubits_named}
use Rattle.circuit_walk.proofs.WordsApart.{lone_fits}

-- ---- each form of pairs is one in which either one may be a record

-- qubits and records, of which no two are a pair of records
record ArePairs (ts : List Target) : Type 0 where
  pub targets : list_all is_plain_or_back ts ≡ true
  pub apart : some_pair (λ a b. is_back a && is_back b) ts ≡ false

none_both : (ts : List Target) → some_pair (λ a b. is_back b) ts ≡ false → some_pair (λ a b. is_back a && is_back b) ts ≡ false
none_both [] h = refl
none_both (a ∷ []) h = refl
none_both (a ∷ b ∷ ts) h =
    let parts = or_parts (is_back b) (some_pair (λ a b. is_back b) ts) h in rw (parts.0, none_both ts parts.1, and-false (is_back a)) refl

of_pairs : (ts : List Target) → (list_all is_plain_or_back ts && not (some_pair (λ a b. is_back a && is_back b) ts)) ≡ true → ArePairs ts
of_pairs ts h =
    let parts = and_parts (list_all is_plain_or_back ts) (not (some_pair (λ a b. is_back a && is_back b) ts)) h in
    record { targets = parts.0; apart = not-true (some_pair (λ a b. is_back a && is_back b) ts) parts.1 }

from_record_first : (ts : List Target) → (list_all is_plain_or_back ts && not (some_pair (λ a b. is_back b) ts)) ≡ true → ArePairs ts
from_record_first ts h =
    let parts = and_parts (list_all is_plain_or_back ts) (not (some_pair (λ a b. is_back b) ts)) h in
    record { targets = parts.0; apart = none_both ts (not-true (some_pair (λ a b. is_back b) ts) parts.1) }

plain_or_back : (ts : List Target) → list_all is_plain ts ≡ true → list_all is_plain_or_back ts ≡ true
plain_or_back [] h = refl
plain_or_back (t ∷ ts) h =
    let parts = and_parts (is_plain t) (list_all is_plain ts) h in
    and_from (is_plain_or_back t) (list_all is_plain_or_back ts) (or_left (is_plain t) (is_back t) parts.0) (plain_or_back ts parts.1)

not_back : (t : Target) → is_plain t ≡ true → is_back t ≡ false
not_back (Plain x) h = refl
not_back t h = absurd cc

none_second : (ts : List Target) → list_all is_plain ts ≡ true → some_pair (λ a b. is_back b) ts ≡ false
none_second [] h = refl
none_second (a ∷ []) h = refl
none_second (a ∷ b ∷ ts) h =
    let first = and_parts (is_plain a) (is_plain b && list_all is_plain ts) h in
    let second = and_parts (is_plain b) (list_all is_plain ts) first.1 in
    rw (not_back b second.0, none_second ts second.1) refl

from_plain : (ts : List Target) → list_all is_plain ts ≡ true → ArePairs ts
from_plain ts h = record { targets = plain_or_back ts h; apart = none_both ts (none_second ts h) }

-- ---- one pair

fed_is_letter : (g : Gate) → is_I (fed_letter g) ≡ false
fed_is_letter gate.CX = refl
fed_is_letter gate.CY = refl
fed_is_letter g = refl

two_qubits : (g : Gate) → (arity_of g == 1) ≡ false → (arity_of g == 2) ≡ true
two_qubits g h = eq-eqb (arity_of g) 2 (two_unless_one g (λ one. false≢true (let b : (arity_of g == 1) ≡ true = eq-eqb (arity_of g) 1 one in cc)))

module _ (program : Listing) where
  pair_fits : (r : ℕ) (g : Gate) (a b : Target) → (arity_of g == 2) ≡ true → is_plain_or_back a ≡ true → is_plain_or_back b ≡ true → (is_back a && is_back b) ≡ false → is_same_qubit a b ≡ false → qubits_to a ≤ program.qubits → qubits_to b ≤ program.qubits → step_fits program (pair_made program.qubits r g a b) ≡ true
  pair_fits r g (Plain x) (Plain y) two first second apart differ la lb =
      rw (two, lt-ltb x program.qubits (omega (arith, la)), lt-ltb y program.qubits (omega (arith, lb)), differ) refl
  pair_fits r g (Back x) (Plain y) two first second apart differ la lb = lone_fits program.qubits y (fed_letter g) (fed_is_letter g) (omega (arith, lb))
  pair_fits r g (Plain x) (Back y) two first second apart differ la lb = lone_fits program.qubits x (fed_letter g) (fed_is_letter g) (omega (arith, la))
  pair_fits r g a b two first second apart differ la lb = absurd cc

  pairs_fit : (r : ℕ) (g : Gate) (ts : List Target) → (arity_of g == 2) ≡ true → ArePairs ts → some_pair is_same_qubit ts ≡ false → qubits_named ts ≤ program.qubits → list_all (step_fits program) (pairs_made program.qubits r g ts) ≡ true
  pairs_fit r g [] two pairs differ le = refl
  pairs_fit r g (a ∷ []) two pairs differ le = refl
  pairs_fit r g (a ∷ b ∷ ts) two pairs differ le =
      let first = and_parts (is_plain_or_back a) (is_plain_or_back b && list_all is_plain_or_back ts) pairs.targets in
      let second = and_parts (is_plain_or_back b) (list_all is_plain_or_back ts) first.1 in
      let records = or_parts (is_back a && is_back b) (some_pair (λ a b. is_back a && is_back b) ts) pairs.apart in
      let apart = or_parts (is_same_qubit a b) (some_pair is_same_qubit ts) differ in
      and_from (step_fits program (pair_made program.qubits r g a b)) (list_all (step_fits program) (pairs_made program.qubits r g ts))
      (pair_fits r g a b two first.0 second.0 records.0 apart.0 (omega (arith, le)) (omega (arith, le)))
      (pairs_fit r g ts two (record { targets = second.1; apart = records.1 }) apart.1 (omega (arith, le)))

  -- ---- gates none of whose targets may be a record

  ones_fit : (g : Gate) (ts : List Target) → (arity_of g == 1) ≡ true → list_all is_plain ts ≡ true → qubits_named ts ≤ program.qubits → list_all (step_fits program) (map (λ target. One g (qubit_of target)) ts) ≡ true
  ones_fit g [] one h le = refl
  ones_fit g (t ∷ ts) one h le =
      let parts = and_parts (is_plain t) (list_all is_plain ts) h in
      and_from (step_fits program (One g (qubit_of t))) (list_all (step_fits program) (map (λ target. One g (qubit_of target)) ts))
      (and_from (arity_of g == 1) (nat_lt (qubit_of t) program.qubits) one (lt-ltb (qubit_of t) program.qubits (plain_below program.qubits t parts.0 (omega (arith, le)))))
      (ones_fit g ts one parts.1 (omega (arith, le)))

  plain_fits : (r : ℕ) (g : Gate) (ts : List Target) (one : Bool) → (arity_of g == 1) ≡ one → list_all is_plain ts ≡ true → (if one then false else some_pair is_same_qubit ts) ≡ false → qubits_named ts ≤ program.qubits → list_all (step_fits program) (if one then map (λ target. One g (qubit_of target)) ts else pairs_made program.qubits r g ts) ≡ true
  plain_fits r g ts true e form differ le = ones_fit g ts e form le
  plain_fits r g ts false e form differ le = pairs_fit r g ts (two_qubits g e) (from_plain ts form) differ le

  -- ---- gates

  pub gate_fits : (r : ℕ) (g : Gate) (ts : List Target) → are_of_form (gate_targets g) ts ≡ true → has_same_qubit (gate_targets g) ts ≡ false → qubits_named ts ≤ program.qubits → list_all (step_fits program) (gate_made program.qubits r g ts) ≡ true
  unfolding are_of_form has_same_qubit
  gate_fits r gate.CX ts form differ le = pairs_fit r gate.CX ts refl (from_record_first ts form) differ le
  gate_fits r gate.CY ts form differ le = pairs_fit r gate.CY ts refl (from_record_first ts form) differ le
  gate_fits r gate.CZ ts form differ le = pairs_fit r gate.CZ ts refl (of_pairs ts form) differ le
  gate_fits r g ts form differ le = plain_fits r g ts (arity_of g == 1) refl form differ le
