-- The words of the state of a run form a commutative group without minus the identity, after every step that fits.
use Rattle.std.proofs.Common.{◌≡◌, ◌≢◌, ◌<◌, ℕ, zero, suc, Bool, true, false, not, ◌&&◌, List, [], ◌∷◌, length, refl, eqb, ltb, take}
use Rattle.std.proofs.lemmas.Bool.{and_parts, and_from, not-true, ltb-true, eqb-true, eqb-false}
use Rattle.std.specs.List.{list_all, list_any, AllPass}
use Rattle.std.specs.Prelude.{Option, slice_index_or}
use Rattle.std.proofs.lemmas.List.Elements.{recursion_from_All, All-from_recursion}
use Rattle.gate_table.specs.declared.gate.Gate.{Gate}
use Rattle.gate_table.specs.Images.{arity_of}
use Rattle.gate_table.proofs.GateGroups.{IsGroup-gate, IsGroup-gate_two}
use Rattle.pauli_word.specs.States.{correcting, collapsed, outcome}
use Rattle.pauli_word.specs.Groups.{IsGroup}
use Rattle.pauli_word.specs.Words.{lone_letter}
use Rattle.pauli_word.proofs.Groups.{IsGroup-start, IsGroup-applied, IsGroup-collapsed}
use Rattle.pauli_word.proofs.LoneLetters.{length-lone_letter}
use Rattle.step_model.specs.Listing.{ListedStep, One, Two, Collapse, Fault, Feedback, Measured, Word, Reset, Recorded, measured_word, Listing, fault_word, is_I}
use Rattle.step_model.specs.Runs.{RunState, next_coin, happens, next, run_from, start, run_state_after}
use Rattle.step_model.specs.WellFormed.{IsWellFormed, word_fits, record_fits, step_fits}

-- what a fitting gate step names

pub record OneFits (n : ℕ) (g : Gate) (q : ℕ) : Type 0 where
  pub arity : arity_of g ≡ 1
  pub qubit : q < n

pub one_fits : (program : Listing) (g : Gate) (q : ℕ) → step_fits program (One g q) ≡ true → OneFits program.qubits g q
one_fits program g q h =
    let parts = and_parts (eqb (arity_of g) 1) (ltb q program.qubits) h in
    record { arity = eqb-true (arity_of g) 1 parts.0; qubit = ltb-true q program.qubits parts.1 }

pub record TwoFits (n : ℕ) (g : Gate) (a b : ℕ) : Type 0 where
  pub arity : arity_of g ≡ 2
  pub first : a < n
  pub second : b < n
  pub differ : a ≢ b

pub two_fits : (program : Listing) (g : Gate) (a b : ℕ) → step_fits program (Two g a b) ≡ true → TwoFits program.qubits g a b
two_fits program g a b h =
    let n = program.qubits in
    let last = and_parts (eqb (arity_of g) 2 && ltb a n && ltb b n) (not (eqb a b)) h in
    let second = and_parts (eqb (arity_of g) 2 && ltb a n) (ltb b n) last.0 in
    let first = and_parts (eqb (arity_of g) 2) (ltb a n) second.0 in
    record {
      arity = eqb-true (arity_of g) 2 first.0;
      first = ltb-true a n first.1;
      second = ltb-true b n second.1;
      differ = eqb-false a b (not-true (eqb a b) last.1);
    }

-- what a collapse measures is a word of the program's qubits
pub length-measured : (program : Listing) (c : Measured) (r : Option Recorded) → step_fits program (Collapse c r) ≡ true → length (measured_word program.qubits c) ≡ program.qubits
length-measured program (Word w) r fits =
    eqb-true (length w) program.qubits
    (and_parts (eqb (length w) program.qubits) (list_any (λ a. not (is_I a)) w) (and_parts (word_fits program.qubits w) (record_fits program r) fits).0).0
length-measured program (Reset letter q) r fits = length-lone_letter program.qubits q letter

-- every step keeps the group
pub IsGroup-next : (program : Listing) (faults : List Bool) (step : ListedStep) (m : RunState) → step_fits program step ≡ true → IsGroup program.qubits m.state → IsGroup program.qubits (next program faults step m).state
IsGroup-next program faults (One g q) m fits group =
    IsGroup-gate program.qubits g q m.state (one_fits program g q fits).qubit group
IsGroup-next program faults (Two g a b) m fits group =
    let named = two_fits program g a b fits in
    IsGroup-gate_two program.qubits g a b m.state named.first named.second named.differ group
IsGroup-next program faults (Collapse (Word w) r) m fits group =
    IsGroup-collapsed program.qubits w (next_coin m.coins) m.state (length-measured program (Word w) r fits) group
IsGroup-next program faults (Collapse (Reset letter q) r) m fits group =
    let w = lone_letter program.qubits q letter in
    IsGroup-applied program.qubits (outcome m.state w (next_coin m.coins)) (lone_letter program.qubits q (correcting letter)) (collapsed w (next_coin m.coins) m.state)
    (IsGroup-collapsed program.qubits w (next_coin m.coins) m.state (length-lone_letter program.qubits q letter) group)
IsGroup-next program faults (Fault f) m fits group =
    IsGroup-applied program.qubits (happens faults f) (fault_word program f) m.state group
IsGroup-next program faults (Feedback w r) m fits group =
    IsGroup-applied program.qubits (slice_index_or m.records r false) w m.state group

-- and so does every list of fitting steps
pub IsGroup-run_from : (program : Listing) (faults : List Bool) (steps : List ListedStep) (m : RunState) → list_all (step_fits program) steps ≡ true → IsGroup program.qubits m.state → IsGroup program.qubits (run_from program faults steps m).state
IsGroup-run_from program faults [] m fits group = group
IsGroup-run_from program faults (step ∷ steps) m fits group =
    let parts = and_parts (step_fits program step) (list_all (step_fits program) steps) fits in
    IsGroup-run_from program faults steps (next program faults step m) parts.1 (IsGroup-next program faults step m parts.0 group)

-- a test that passes at each element passes at each of the first k
list_all-take : {X : Type 0} (test : X → Bool) (k : ℕ) (xs : List X) → list_all test xs ≡ true → list_all test (take k xs) ≡ true
list_all-take test zero xs h = refl
list_all-take test (suc k) [] h = refl
list_all-take test (suc k) (x ∷ xs) h =
    let parts = and_parts (test x) (list_all test xs) h in
    and_from (test x) (list_all test (take k xs)) parts.0 (list_all-take test k xs parts.1)

pub list_all-pass : {X : Type 0} (test : X → Bool) (xs : List X) → AllPass test xs → list_all test xs ≡ true
list_all-pass test [] h = refl
list_all-pass test (x ∷ xs) h =
    let parts = recursion_from_All (λ y. test y ≡ true) (x ∷ xs) h in
    and_from (test x) (list_all test xs) parts.0 (list_all-pass test xs (All-from_recursion (λ y. test y ≡ true) xs parts.1))

pub IsGroup-run_state_after : (program : Listing) (faults coins : List Bool) (k : ℕ) → IsWellFormed program → IsGroup program.qubits (run_state_after program faults coins k).state
IsGroup-run_state_after program faults coins k well =
    IsGroup-run_from program faults (take k program.steps) (start coins)
    (list_all-take (step_fits program) k program.steps (list_all-pass (step_fits program) program.steps well.steps_fit))
    (IsGroup-start program.qubits)
