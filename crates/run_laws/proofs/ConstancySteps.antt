-- One step of a run: where the sensitivity before a step is in the state, that after it is in the next state. Its
-- sign changes by what the step brings, and by what its record changes in the parity.
use Rattle.std.proofs.Common.{◌≡◌, ℕ, ◌<◌, Bool, true, false, not, ◌&&◌, List, length, get_or, nat_lt, Option, refl, ap, ◌∙◌}
use Rattle.std.proofs.lemmas.Bool.{and_parts, not-true, ltb-true}
use Rattle.pauli_word.specs.declared.letter.Letter.{Letter}
use Rattle.pauli_word.specs.Letters.{is_minus}
use Rattle.pauli_word.specs.Parity.{exclusive_or}
use Rattle.pauli_word.specs.Words.{letters_power, anticommute, lone_letter, signed}
use Rattle.pauli_word.proofs.Parities.{same_truth, same_truth-true, at_four_truths, at_two_truths}
use Rattle.gate_table.specs.WordImages.{preimage_at, preimage_at_two}
use Rattle.step_model.specs.Listing.{ListedStep, One, Two, Collapse, Fault, Feedback, Measured, Word, Reset, Recorded, measured_word, Listing, fault_word, is_I}
use Rattle.pauli_word.specs.States.{State, collapsed, outcome}
use Rattle.pauli_word.specs.Groups.{IsGroup}
use Rattle.step_model.specs.Runs.{RunState, next, next_coin, happens, record_changes}
use Rattle.step_model.specs.Sensitivities.{Sensitivity, cleared, record_counts, sensitivity_before, collapse_word}
use Rattle.step_model.specs.WellFormed.{record_fits, step_fits}
use Rattle.pauli_word.proofs.Groups.{IsGroup-collapsed}
use Rattle.step_model.proofs.SensitivityLengths.{length-cleared}
use Rattle.step_model.proofs.StateIsGroup.{length-measured}
use Rattle.run_laws.specs.Constants.{sign_brought}
use Rattle.run_laws.proofs.ConstancyCollapses.{seen_after, through_collapse, through_reset}
use Rattle.run_laws.proofs.ConstancyRecords.{record_change}
use Rattle.pauli_word.proofs.LoneLetters.{length-lone_letter, anticommute-cleared}

-- a reset that fits is of no I, at a qubit of the program
pub record ResetFits (n qubit : ℕ) (letter : Letter) : Type 0 where
  pub letter_fits : is_I letter ≡ false
  pub qubit_fits : qubit < n

pub reset_fits : (program : Listing) (letter : Letter) (qubit : ℕ) (r : Option Recorded) → step_fits program (Collapse (Reset letter qubit) r) ≡ true → ResetFits program.qubits qubit letter
reset_fits program letter qubit r h =
    let both = and_parts (not (is_I letter)) (nat_lt qubit program.qubits) (and_parts (not (is_I letter) && nat_lt qubit program.qubits) (record_fits program r) h).0
    in record { letter_fits = not-true (is_I letter) both.0; qubit_fits = ltb-true qubit program.qubits both.1 }

commutes_cleared : (program : Listing) (c : Measured) (r : Option Recorded) (w : List Letter) → step_fits program (Collapse c r) ≡ true → length w ≡ program.qubits → anticommute (measured_word program.qubits c) w ≡ false → anticommute (measured_word program.qubits c) (cleared c w) ≡ false
commutes_cleared program (Word v) r w fits h c = c
commutes_cleared program (Reset letter qubit) r w fits h c = anticommute-cleared program.qubits w qubit letter h (reset_fits program letter qubit r fits).qubit_fits

-- where the state after the collapse has the cleared word, the state after the whole step has the word
after_reset : (program : Listing) (faults : List Bool) (c : Measured) (r : Option Recorded) (m : RunState) (w : List Letter) (b : Bool) → step_fits program (Collapse c r) ≡ true → IsGroup program.qubits m.state → IsGroup program.qubits (collapsed (measured_word program.qubits c) (next_coin m.coins) m.state) → length w ≡ program.qubits → anticommute (measured_word program.qubits c) w ≡ false → collapsed (measured_word program.qubits c) (next_coin m.coins) m.state (signed (cleared c w) b) ≡ true → (next program faults (Collapse c r) m).state (signed w b) ≡ true
after_reset program faults (Word v) r m w b fits g after h c k = k
after_reset program faults (Reset letter qubit) r m w b fits g after h c k =
    let here = reset_fits program letter qubit r fits in
    through_reset program.qubits (collapsed (lone_letter program.qubits qubit letter) (next_coin m.coins) m.state) qubit letter w
    (outcome m.state (lone_letter program.qubits qubit letter) (next_coin m.coins)) b after here.letter_fits here.qubit_fits h c
    (seen_after program.qubits m.state (lone_letter program.qubits qubit letter) (next_coin m.coins) g (length-lone_letter program.qubits qubit letter))
    k

-- how the signs add up at a gate, at a fault and at a collapse
gate_sign : (b i : Bool) → exclusive_or (exclusive_or b (exclusive_or i false)) i ≡ b
gate_sign b i = same_truth-true _ _ (at_two_truths (λ b i. same_truth (exclusive_or (exclusive_or b (exclusive_or i false)) i) b) refl b i)

fault_sign : (b i : Bool) → exclusive_or i (exclusive_or b (exclusive_or i false)) ≡ b
fault_sign b i = same_truth-true _ _ (at_two_truths (λ b i. same_truth (exclusive_or i (exclusive_or b (exclusive_or i false))) b) refl b i)

collapse_sign : (counts minus known seen : Bool) → exclusive_or (counts && exclusive_or minus known) (counts && exclusive_or seen known) ≡ (counts && exclusive_or minus seen)
collapse_sign counts minus known seen =
    same_truth-true _ _
    (at_four_truths
    (λ counts minus known seen. same_truth (exclusive_or (counts && exclusive_or minus known) (counts && exclusive_or seen known)) (counts && exclusive_or minus seen))
    refl counts minus known seen)

feedback_sign : (b fed : Bool) → exclusive_or fed (exclusive_or b (exclusive_or false fed)) ≡ b
feedback_sign b fed = same_truth-true _ _ (at_two_truths (λ b fed. same_truth (exclusive_or fed (exclusive_or b (exclusive_or false fed))) b) refl b fed)

and_comm : (a b : Bool) → (a && b) ≡ (b && a)
and_comm true true = refl
and_comm true false = refl
and_comm false true = refl
and_comm false false = refl

-- the sign after a step of a word that had the sign b before it
abbrev pub sign_after : Listing → List Bool → ListedStep → RunState → Sensitivity → Bool → Bool
sign_after program faults step m s b =
    exclusive_or b (exclusive_or (sign_brought program faults step s) (record_change program faults step s m))

pub member-next : (program : Listing) (faults : List Bool) (step : ListedStep) (m : RunState) (s : Sensitivity) (b : Bool) → step_fits program step ≡ true → IsGroup program.qubits m.state → length s.word ≡ program.qubits → anticommute (collapse_word program.qubits step) s.word ≡ false → m.state (signed (sensitivity_before program.qubits step s).word b) ≡ true → (next program faults step m).state (signed s.word (sign_after program faults step m s b)) ≡ true
member-next program faults (One gate q) m s b fits g h c k =
    ap (λ x. m.state (signed (preimage_at gate q (signed s.word false)).letters x)) (gate_sign b (preimage_at gate q (signed s.word false)).negative) ∙ k
member-next program faults (Two gate p q) m s b fits g h c k =
    ap (λ x. m.state (signed (preimage_at_two gate p q (signed s.word false)).letters x)) (gate_sign b (preimage_at_two gate p q (signed s.word false)).negative) ∙ k
member-next program faults (Collapse c r) m s b fits g h apart k =
    after_reset program faults c r m s.word sign fits g after_is_group h apart
    (ap (λ x. after (signed v (exclusive_or b x))) (collapse_sign counts (is_minus (letters_power w v)) (record_changes faults r) seen)
    ∙ through_collapse program.qubits m.state w v counts (next_coin m.coins) b g after_is_group
    long (length-cleared program.qubits c s.word h)
    (commutes_cleared program c r s.word fits h apart) k)
  where
    w : List Letter
    w = measured_word program.qubits c

    long : length (measured_word program.qubits c) ≡ program.qubits
    long = length-measured program c r fits

    v : List Letter
    v = cleared c s.word

    counts : Bool
    counts = record_counts s.records r

    seen : Bool
    seen = outcome m.state (measured_word program.qubits c) (next_coin m.coins)

    sign : Bool
    sign = sign_after program faults (Collapse c r) m s b

    after : State
    after = collapsed (measured_word program.qubits c) (next_coin m.coins) m.state

    after_is_group : IsGroup program.qubits (collapsed (measured_word program.qubits c) (next_coin m.coins) m.state)
    after_is_group = IsGroup-collapsed program.qubits (measured_word program.qubits c) (next_coin m.coins) m.state long g
member-next program faults (Fault f) m s b fits g h c k =
    ap (λ x. m.state (signed s.word x)) (fault_sign b (happens faults f && anticommute s.word (fault_word program f))) ∙ k
member-next program faults (Feedback w r) m s b fits g h c k =
    ap (λ x. m.state (signed s.word (exclusive_or x (sign_after program faults (Feedback w r) m s b)))) (and_comm (get_or m.records r false) (anticommute s.word w))
    ∙ ap (λ x. m.state (signed s.word x)) (feedback_sign b (anticommute s.word w && get_or m.records r false))
    ∙ k
